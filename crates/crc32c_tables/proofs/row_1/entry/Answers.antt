use mathlib.Core.Path.{◌≡◌}
use mathlib.Core.List.{[]}
use Prim.Native.Nat.{ℕ, ◌+◌, ◌-◌, ◌<◌}
use native.Mathlib.Omega.{arith}
use lib.ListN.{get_or}
use Rattle.crc32c_steps.specs.Steps.{crc32c, steps}
use Rattle.crc32c_tables.proofs.Arms.{arm-of, never}
use Rattle.crc32c_tables.proofs.Array.{array}
use Rattle.crc32c_tables.proofs.row_1.entry.Goals as goal

-- `crc32c_tables::row_1::entry` meets its contract: the arms are the entries of row 1, and what is proved of the rows holds of each.
-- Written by tools/tables from what the program crc_table prints: do not edit. Assumes nothing.

arm : {n key : ℕ} → n < 256 → n + 256 ≡ key → get_or (get_or array 1 []) (key - 256) 0 ≡ steps crc32c 16 n
arm = arm-of 1 (omega arith)

pub returns-in-256 : goal.returns-in-256
returns-in-256 c = arm c.ranges.n.fits c.in-256.is

pub returns-in-257 : goal.returns-in-257
returns-in-257 c = arm c.ranges.n.fits c.in-257.is

pub returns-in-258 : goal.returns-in-258
returns-in-258 c = arm c.ranges.n.fits c.in-258.is

pub returns-in-259 : goal.returns-in-259
returns-in-259 c = arm c.ranges.n.fits c.in-259.is

pub returns-in-260 : goal.returns-in-260
returns-in-260 c = arm c.ranges.n.fits c.in-260.is

pub returns-in-261 : goal.returns-in-261
returns-in-261 c = arm c.ranges.n.fits c.in-261.is

pub returns-in-262 : goal.returns-in-262
returns-in-262 c = arm c.ranges.n.fits c.in-262.is

pub returns-in-263 : goal.returns-in-263
returns-in-263 c = arm c.ranges.n.fits c.in-263.is

pub returns-in-264 : goal.returns-in-264
returns-in-264 c = arm c.ranges.n.fits c.in-264.is

pub returns-in-265 : goal.returns-in-265
returns-in-265 c = arm c.ranges.n.fits c.in-265.is

pub returns-in-266 : goal.returns-in-266
returns-in-266 c = arm c.ranges.n.fits c.in-266.is

pub returns-in-267 : goal.returns-in-267
returns-in-267 c = arm c.ranges.n.fits c.in-267.is

pub returns-in-268 : goal.returns-in-268
returns-in-268 c = arm c.ranges.n.fits c.in-268.is

pub returns-in-269 : goal.returns-in-269
returns-in-269 c = arm c.ranges.n.fits c.in-269.is

pub returns-in-270 : goal.returns-in-270
returns-in-270 c = arm c.ranges.n.fits c.in-270.is

pub returns-in-271 : goal.returns-in-271
returns-in-271 c = arm c.ranges.n.fits c.in-271.is

pub returns-in-272 : goal.returns-in-272
returns-in-272 c = arm c.ranges.n.fits c.in-272.is

pub returns-in-273 : goal.returns-in-273
returns-in-273 c = arm c.ranges.n.fits c.in-273.is

pub returns-in-274 : goal.returns-in-274
returns-in-274 c = arm c.ranges.n.fits c.in-274.is

pub returns-in-275 : goal.returns-in-275
returns-in-275 c = arm c.ranges.n.fits c.in-275.is

pub returns-in-276 : goal.returns-in-276
returns-in-276 c = arm c.ranges.n.fits c.in-276.is

pub returns-in-277 : goal.returns-in-277
returns-in-277 c = arm c.ranges.n.fits c.in-277.is

pub returns-in-278 : goal.returns-in-278
returns-in-278 c = arm c.ranges.n.fits c.in-278.is

pub returns-in-279 : goal.returns-in-279
returns-in-279 c = arm c.ranges.n.fits c.in-279.is

pub returns-in-280 : goal.returns-in-280
returns-in-280 c = arm c.ranges.n.fits c.in-280.is

pub returns-in-281 : goal.returns-in-281
returns-in-281 c = arm c.ranges.n.fits c.in-281.is

pub returns-in-282 : goal.returns-in-282
returns-in-282 c = arm c.ranges.n.fits c.in-282.is

pub returns-in-283 : goal.returns-in-283
returns-in-283 c = arm c.ranges.n.fits c.in-283.is

pub returns-in-284 : goal.returns-in-284
returns-in-284 c = arm c.ranges.n.fits c.in-284.is

pub returns-in-285 : goal.returns-in-285
returns-in-285 c = arm c.ranges.n.fits c.in-285.is

pub returns-in-286 : goal.returns-in-286
returns-in-286 c = arm c.ranges.n.fits c.in-286.is

pub returns-in-287 : goal.returns-in-287
returns-in-287 c = arm c.ranges.n.fits c.in-287.is

pub returns-in-288 : goal.returns-in-288
returns-in-288 c = arm c.ranges.n.fits c.in-288.is

pub returns-in-289 : goal.returns-in-289
returns-in-289 c = arm c.ranges.n.fits c.in-289.is

pub returns-in-290 : goal.returns-in-290
returns-in-290 c = arm c.ranges.n.fits c.in-290.is

pub returns-in-291 : goal.returns-in-291
returns-in-291 c = arm c.ranges.n.fits c.in-291.is

pub returns-in-292 : goal.returns-in-292
returns-in-292 c = arm c.ranges.n.fits c.in-292.is

pub returns-in-293 : goal.returns-in-293
returns-in-293 c = arm c.ranges.n.fits c.in-293.is

pub returns-in-294 : goal.returns-in-294
returns-in-294 c = arm c.ranges.n.fits c.in-294.is

pub returns-in-295 : goal.returns-in-295
returns-in-295 c = arm c.ranges.n.fits c.in-295.is

pub returns-in-296 : goal.returns-in-296
returns-in-296 c = arm c.ranges.n.fits c.in-296.is

pub returns-in-297 : goal.returns-in-297
returns-in-297 c = arm c.ranges.n.fits c.in-297.is

pub returns-in-298 : goal.returns-in-298
returns-in-298 c = arm c.ranges.n.fits c.in-298.is

pub returns-in-299 : goal.returns-in-299
returns-in-299 c = arm c.ranges.n.fits c.in-299.is

pub returns-in-300 : goal.returns-in-300
returns-in-300 c = arm c.ranges.n.fits c.in-300.is

pub returns-in-301 : goal.returns-in-301
returns-in-301 c = arm c.ranges.n.fits c.in-301.is

pub returns-in-302 : goal.returns-in-302
returns-in-302 c = arm c.ranges.n.fits c.in-302.is

pub returns-in-303 : goal.returns-in-303
returns-in-303 c = arm c.ranges.n.fits c.in-303.is

pub returns-in-304 : goal.returns-in-304
returns-in-304 c = arm c.ranges.n.fits c.in-304.is

pub returns-in-305 : goal.returns-in-305
returns-in-305 c = arm c.ranges.n.fits c.in-305.is

pub returns-in-306 : goal.returns-in-306
returns-in-306 c = arm c.ranges.n.fits c.in-306.is

pub returns-in-307 : goal.returns-in-307
returns-in-307 c = arm c.ranges.n.fits c.in-307.is

pub returns-in-308 : goal.returns-in-308
returns-in-308 c = arm c.ranges.n.fits c.in-308.is

pub returns-in-309 : goal.returns-in-309
returns-in-309 c = arm c.ranges.n.fits c.in-309.is

pub returns-in-310 : goal.returns-in-310
returns-in-310 c = arm c.ranges.n.fits c.in-310.is

pub returns-in-311 : goal.returns-in-311
returns-in-311 c = arm c.ranges.n.fits c.in-311.is

pub returns-in-312 : goal.returns-in-312
returns-in-312 c = arm c.ranges.n.fits c.in-312.is

pub returns-in-313 : goal.returns-in-313
returns-in-313 c = arm c.ranges.n.fits c.in-313.is

pub returns-in-314 : goal.returns-in-314
returns-in-314 c = arm c.ranges.n.fits c.in-314.is

pub returns-in-315 : goal.returns-in-315
returns-in-315 c = arm c.ranges.n.fits c.in-315.is

pub returns-in-316 : goal.returns-in-316
returns-in-316 c = arm c.ranges.n.fits c.in-316.is

pub returns-in-317 : goal.returns-in-317
returns-in-317 c = arm c.ranges.n.fits c.in-317.is

pub returns-in-318 : goal.returns-in-318
returns-in-318 c = arm c.ranges.n.fits c.in-318.is

pub returns-in-319 : goal.returns-in-319
returns-in-319 c = arm c.ranges.n.fits c.in-319.is

pub returns-in-320 : goal.returns-in-320
returns-in-320 c = arm c.ranges.n.fits c.in-320.is

pub returns-in-321 : goal.returns-in-321
returns-in-321 c = arm c.ranges.n.fits c.in-321.is

pub returns-in-322 : goal.returns-in-322
returns-in-322 c = arm c.ranges.n.fits c.in-322.is

pub returns-in-323 : goal.returns-in-323
returns-in-323 c = arm c.ranges.n.fits c.in-323.is

pub returns-in-324 : goal.returns-in-324
returns-in-324 c = arm c.ranges.n.fits c.in-324.is

pub returns-in-325 : goal.returns-in-325
returns-in-325 c = arm c.ranges.n.fits c.in-325.is

pub returns-in-326 : goal.returns-in-326
returns-in-326 c = arm c.ranges.n.fits c.in-326.is

pub returns-in-327 : goal.returns-in-327
returns-in-327 c = arm c.ranges.n.fits c.in-327.is

pub returns-in-328 : goal.returns-in-328
returns-in-328 c = arm c.ranges.n.fits c.in-328.is

pub returns-in-329 : goal.returns-in-329
returns-in-329 c = arm c.ranges.n.fits c.in-329.is

pub returns-in-330 : goal.returns-in-330
returns-in-330 c = arm c.ranges.n.fits c.in-330.is

pub returns-in-331 : goal.returns-in-331
returns-in-331 c = arm c.ranges.n.fits c.in-331.is

pub returns-in-332 : goal.returns-in-332
returns-in-332 c = arm c.ranges.n.fits c.in-332.is

pub returns-in-333 : goal.returns-in-333
returns-in-333 c = arm c.ranges.n.fits c.in-333.is

pub returns-in-334 : goal.returns-in-334
returns-in-334 c = arm c.ranges.n.fits c.in-334.is

pub returns-in-335 : goal.returns-in-335
returns-in-335 c = arm c.ranges.n.fits c.in-335.is

pub returns-in-336 : goal.returns-in-336
returns-in-336 c = arm c.ranges.n.fits c.in-336.is

pub returns-in-337 : goal.returns-in-337
returns-in-337 c = arm c.ranges.n.fits c.in-337.is

pub returns-in-338 : goal.returns-in-338
returns-in-338 c = arm c.ranges.n.fits c.in-338.is

pub returns-in-339 : goal.returns-in-339
returns-in-339 c = arm c.ranges.n.fits c.in-339.is

pub returns-in-340 : goal.returns-in-340
returns-in-340 c = arm c.ranges.n.fits c.in-340.is

pub returns-in-341 : goal.returns-in-341
returns-in-341 c = arm c.ranges.n.fits c.in-341.is

pub returns-in-342 : goal.returns-in-342
returns-in-342 c = arm c.ranges.n.fits c.in-342.is

pub returns-in-343 : goal.returns-in-343
returns-in-343 c = arm c.ranges.n.fits c.in-343.is

pub returns-in-344 : goal.returns-in-344
returns-in-344 c = arm c.ranges.n.fits c.in-344.is

pub returns-in-345 : goal.returns-in-345
returns-in-345 c = arm c.ranges.n.fits c.in-345.is

pub returns-in-346 : goal.returns-in-346
returns-in-346 c = arm c.ranges.n.fits c.in-346.is

pub returns-in-347 : goal.returns-in-347
returns-in-347 c = arm c.ranges.n.fits c.in-347.is

pub returns-in-348 : goal.returns-in-348
returns-in-348 c = arm c.ranges.n.fits c.in-348.is

pub returns-in-349 : goal.returns-in-349
returns-in-349 c = arm c.ranges.n.fits c.in-349.is

pub returns-in-350 : goal.returns-in-350
returns-in-350 c = arm c.ranges.n.fits c.in-350.is

pub returns-in-351 : goal.returns-in-351
returns-in-351 c = arm c.ranges.n.fits c.in-351.is

pub returns-in-352 : goal.returns-in-352
returns-in-352 c = arm c.ranges.n.fits c.in-352.is

pub returns-in-353 : goal.returns-in-353
returns-in-353 c = arm c.ranges.n.fits c.in-353.is

pub returns-in-354 : goal.returns-in-354
returns-in-354 c = arm c.ranges.n.fits c.in-354.is

pub returns-in-355 : goal.returns-in-355
returns-in-355 c = arm c.ranges.n.fits c.in-355.is

pub returns-in-356 : goal.returns-in-356
returns-in-356 c = arm c.ranges.n.fits c.in-356.is

pub returns-in-357 : goal.returns-in-357
returns-in-357 c = arm c.ranges.n.fits c.in-357.is

pub returns-in-358 : goal.returns-in-358
returns-in-358 c = arm c.ranges.n.fits c.in-358.is

pub returns-in-359 : goal.returns-in-359
returns-in-359 c = arm c.ranges.n.fits c.in-359.is

pub returns-in-360 : goal.returns-in-360
returns-in-360 c = arm c.ranges.n.fits c.in-360.is

pub returns-in-361 : goal.returns-in-361
returns-in-361 c = arm c.ranges.n.fits c.in-361.is

pub returns-in-362 : goal.returns-in-362
returns-in-362 c = arm c.ranges.n.fits c.in-362.is

pub returns-in-363 : goal.returns-in-363
returns-in-363 c = arm c.ranges.n.fits c.in-363.is

pub returns-in-364 : goal.returns-in-364
returns-in-364 c = arm c.ranges.n.fits c.in-364.is

pub returns-in-365 : goal.returns-in-365
returns-in-365 c = arm c.ranges.n.fits c.in-365.is

pub returns-in-366 : goal.returns-in-366
returns-in-366 c = arm c.ranges.n.fits c.in-366.is

pub returns-in-367 : goal.returns-in-367
returns-in-367 c = arm c.ranges.n.fits c.in-367.is

pub returns-in-368 : goal.returns-in-368
returns-in-368 c = arm c.ranges.n.fits c.in-368.is

pub returns-in-369 : goal.returns-in-369
returns-in-369 c = arm c.ranges.n.fits c.in-369.is

pub returns-in-370 : goal.returns-in-370
returns-in-370 c = arm c.ranges.n.fits c.in-370.is

pub returns-in-371 : goal.returns-in-371
returns-in-371 c = arm c.ranges.n.fits c.in-371.is

pub returns-in-372 : goal.returns-in-372
returns-in-372 c = arm c.ranges.n.fits c.in-372.is

pub returns-in-373 : goal.returns-in-373
returns-in-373 c = arm c.ranges.n.fits c.in-373.is

pub returns-in-374 : goal.returns-in-374
returns-in-374 c = arm c.ranges.n.fits c.in-374.is

pub returns-in-375 : goal.returns-in-375
returns-in-375 c = arm c.ranges.n.fits c.in-375.is

pub returns-in-376 : goal.returns-in-376
returns-in-376 c = arm c.ranges.n.fits c.in-376.is

pub returns-in-377 : goal.returns-in-377
returns-in-377 c = arm c.ranges.n.fits c.in-377.is

pub returns-in-378 : goal.returns-in-378
returns-in-378 c = arm c.ranges.n.fits c.in-378.is

pub returns-in-379 : goal.returns-in-379
returns-in-379 c = arm c.ranges.n.fits c.in-379.is

pub returns-in-380 : goal.returns-in-380
returns-in-380 c = arm c.ranges.n.fits c.in-380.is

pub returns-in-381 : goal.returns-in-381
returns-in-381 c = arm c.ranges.n.fits c.in-381.is

pub returns-in-382 : goal.returns-in-382
returns-in-382 c = arm c.ranges.n.fits c.in-382.is

pub returns-in-383 : goal.returns-in-383
returns-in-383 c = arm c.ranges.n.fits c.in-383.is

pub returns-in-384 : goal.returns-in-384
returns-in-384 c = arm c.ranges.n.fits c.in-384.is

pub returns-in-385 : goal.returns-in-385
returns-in-385 c = arm c.ranges.n.fits c.in-385.is

pub returns-in-386 : goal.returns-in-386
returns-in-386 c = arm c.ranges.n.fits c.in-386.is

pub returns-in-387 : goal.returns-in-387
returns-in-387 c = arm c.ranges.n.fits c.in-387.is

pub returns-in-388 : goal.returns-in-388
returns-in-388 c = arm c.ranges.n.fits c.in-388.is

pub returns-in-389 : goal.returns-in-389
returns-in-389 c = arm c.ranges.n.fits c.in-389.is

pub returns-in-390 : goal.returns-in-390
returns-in-390 c = arm c.ranges.n.fits c.in-390.is

pub returns-in-391 : goal.returns-in-391
returns-in-391 c = arm c.ranges.n.fits c.in-391.is

pub returns-in-392 : goal.returns-in-392
returns-in-392 c = arm c.ranges.n.fits c.in-392.is

pub returns-in-393 : goal.returns-in-393
returns-in-393 c = arm c.ranges.n.fits c.in-393.is

pub returns-in-394 : goal.returns-in-394
returns-in-394 c = arm c.ranges.n.fits c.in-394.is

pub returns-in-395 : goal.returns-in-395
returns-in-395 c = arm c.ranges.n.fits c.in-395.is

pub returns-in-396 : goal.returns-in-396
returns-in-396 c = arm c.ranges.n.fits c.in-396.is

pub returns-in-397 : goal.returns-in-397
returns-in-397 c = arm c.ranges.n.fits c.in-397.is

pub returns-in-398 : goal.returns-in-398
returns-in-398 c = arm c.ranges.n.fits c.in-398.is

pub returns-in-399 : goal.returns-in-399
returns-in-399 c = arm c.ranges.n.fits c.in-399.is

pub returns-in-400 : goal.returns-in-400
returns-in-400 c = arm c.ranges.n.fits c.in-400.is

pub returns-in-401 : goal.returns-in-401
returns-in-401 c = arm c.ranges.n.fits c.in-401.is

pub returns-in-402 : goal.returns-in-402
returns-in-402 c = arm c.ranges.n.fits c.in-402.is

pub returns-in-403 : goal.returns-in-403
returns-in-403 c = arm c.ranges.n.fits c.in-403.is

pub returns-in-404 : goal.returns-in-404
returns-in-404 c = arm c.ranges.n.fits c.in-404.is

pub returns-in-405 : goal.returns-in-405
returns-in-405 c = arm c.ranges.n.fits c.in-405.is

pub returns-in-406 : goal.returns-in-406
returns-in-406 c = arm c.ranges.n.fits c.in-406.is

pub returns-in-407 : goal.returns-in-407
returns-in-407 c = arm c.ranges.n.fits c.in-407.is

pub returns-in-408 : goal.returns-in-408
returns-in-408 c = arm c.ranges.n.fits c.in-408.is

pub returns-in-409 : goal.returns-in-409
returns-in-409 c = arm c.ranges.n.fits c.in-409.is

pub returns-in-410 : goal.returns-in-410
returns-in-410 c = arm c.ranges.n.fits c.in-410.is

pub returns-in-411 : goal.returns-in-411
returns-in-411 c = arm c.ranges.n.fits c.in-411.is

pub returns-in-412 : goal.returns-in-412
returns-in-412 c = arm c.ranges.n.fits c.in-412.is

pub returns-in-413 : goal.returns-in-413
returns-in-413 c = arm c.ranges.n.fits c.in-413.is

pub returns-in-414 : goal.returns-in-414
returns-in-414 c = arm c.ranges.n.fits c.in-414.is

pub returns-in-415 : goal.returns-in-415
returns-in-415 c = arm c.ranges.n.fits c.in-415.is

pub returns-in-416 : goal.returns-in-416
returns-in-416 c = arm c.ranges.n.fits c.in-416.is

pub returns-in-417 : goal.returns-in-417
returns-in-417 c = arm c.ranges.n.fits c.in-417.is

pub returns-in-418 : goal.returns-in-418
returns-in-418 c = arm c.ranges.n.fits c.in-418.is

pub returns-in-419 : goal.returns-in-419
returns-in-419 c = arm c.ranges.n.fits c.in-419.is

pub returns-in-420 : goal.returns-in-420
returns-in-420 c = arm c.ranges.n.fits c.in-420.is

pub returns-in-421 : goal.returns-in-421
returns-in-421 c = arm c.ranges.n.fits c.in-421.is

pub returns-in-422 : goal.returns-in-422
returns-in-422 c = arm c.ranges.n.fits c.in-422.is

pub returns-in-423 : goal.returns-in-423
returns-in-423 c = arm c.ranges.n.fits c.in-423.is

pub returns-in-424 : goal.returns-in-424
returns-in-424 c = arm c.ranges.n.fits c.in-424.is

pub returns-in-425 : goal.returns-in-425
returns-in-425 c = arm c.ranges.n.fits c.in-425.is

pub returns-in-426 : goal.returns-in-426
returns-in-426 c = arm c.ranges.n.fits c.in-426.is

pub returns-in-427 : goal.returns-in-427
returns-in-427 c = arm c.ranges.n.fits c.in-427.is

pub returns-in-428 : goal.returns-in-428
returns-in-428 c = arm c.ranges.n.fits c.in-428.is

pub returns-in-429 : goal.returns-in-429
returns-in-429 c = arm c.ranges.n.fits c.in-429.is

pub returns-in-430 : goal.returns-in-430
returns-in-430 c = arm c.ranges.n.fits c.in-430.is

pub returns-in-431 : goal.returns-in-431
returns-in-431 c = arm c.ranges.n.fits c.in-431.is

pub returns-in-432 : goal.returns-in-432
returns-in-432 c = arm c.ranges.n.fits c.in-432.is

pub returns-in-433 : goal.returns-in-433
returns-in-433 c = arm c.ranges.n.fits c.in-433.is

pub returns-in-434 : goal.returns-in-434
returns-in-434 c = arm c.ranges.n.fits c.in-434.is

pub returns-in-435 : goal.returns-in-435
returns-in-435 c = arm c.ranges.n.fits c.in-435.is

pub returns-in-436 : goal.returns-in-436
returns-in-436 c = arm c.ranges.n.fits c.in-436.is

pub returns-in-437 : goal.returns-in-437
returns-in-437 c = arm c.ranges.n.fits c.in-437.is

pub returns-in-438 : goal.returns-in-438
returns-in-438 c = arm c.ranges.n.fits c.in-438.is

pub returns-in-439 : goal.returns-in-439
returns-in-439 c = arm c.ranges.n.fits c.in-439.is

pub returns-in-440 : goal.returns-in-440
returns-in-440 c = arm c.ranges.n.fits c.in-440.is

pub returns-in-441 : goal.returns-in-441
returns-in-441 c = arm c.ranges.n.fits c.in-441.is

pub returns-in-442 : goal.returns-in-442
returns-in-442 c = arm c.ranges.n.fits c.in-442.is

pub returns-in-443 : goal.returns-in-443
returns-in-443 c = arm c.ranges.n.fits c.in-443.is

pub returns-in-444 : goal.returns-in-444
returns-in-444 c = arm c.ranges.n.fits c.in-444.is

pub returns-in-445 : goal.returns-in-445
returns-in-445 c = arm c.ranges.n.fits c.in-445.is

pub returns-in-446 : goal.returns-in-446
returns-in-446 c = arm c.ranges.n.fits c.in-446.is

pub returns-in-447 : goal.returns-in-447
returns-in-447 c = arm c.ranges.n.fits c.in-447.is

pub returns-in-448 : goal.returns-in-448
returns-in-448 c = arm c.ranges.n.fits c.in-448.is

pub returns-in-449 : goal.returns-in-449
returns-in-449 c = arm c.ranges.n.fits c.in-449.is

pub returns-in-450 : goal.returns-in-450
returns-in-450 c = arm c.ranges.n.fits c.in-450.is

pub returns-in-451 : goal.returns-in-451
returns-in-451 c = arm c.ranges.n.fits c.in-451.is

pub returns-in-452 : goal.returns-in-452
returns-in-452 c = arm c.ranges.n.fits c.in-452.is

pub returns-in-453 : goal.returns-in-453
returns-in-453 c = arm c.ranges.n.fits c.in-453.is

pub returns-in-454 : goal.returns-in-454
returns-in-454 c = arm c.ranges.n.fits c.in-454.is

pub returns-in-455 : goal.returns-in-455
returns-in-455 c = arm c.ranges.n.fits c.in-455.is

pub returns-in-456 : goal.returns-in-456
returns-in-456 c = arm c.ranges.n.fits c.in-456.is

pub returns-in-457 : goal.returns-in-457
returns-in-457 c = arm c.ranges.n.fits c.in-457.is

pub returns-in-458 : goal.returns-in-458
returns-in-458 c = arm c.ranges.n.fits c.in-458.is

pub returns-in-459 : goal.returns-in-459
returns-in-459 c = arm c.ranges.n.fits c.in-459.is

pub returns-in-460 : goal.returns-in-460
returns-in-460 c = arm c.ranges.n.fits c.in-460.is

pub returns-in-461 : goal.returns-in-461
returns-in-461 c = arm c.ranges.n.fits c.in-461.is

pub returns-in-462 : goal.returns-in-462
returns-in-462 c = arm c.ranges.n.fits c.in-462.is

pub returns-in-463 : goal.returns-in-463
returns-in-463 c = arm c.ranges.n.fits c.in-463.is

pub returns-in-464 : goal.returns-in-464
returns-in-464 c = arm c.ranges.n.fits c.in-464.is

pub returns-in-465 : goal.returns-in-465
returns-in-465 c = arm c.ranges.n.fits c.in-465.is

pub returns-in-466 : goal.returns-in-466
returns-in-466 c = arm c.ranges.n.fits c.in-466.is

pub returns-in-467 : goal.returns-in-467
returns-in-467 c = arm c.ranges.n.fits c.in-467.is

pub returns-in-468 : goal.returns-in-468
returns-in-468 c = arm c.ranges.n.fits c.in-468.is

pub returns-in-469 : goal.returns-in-469
returns-in-469 c = arm c.ranges.n.fits c.in-469.is

pub returns-in-470 : goal.returns-in-470
returns-in-470 c = arm c.ranges.n.fits c.in-470.is

pub returns-in-471 : goal.returns-in-471
returns-in-471 c = arm c.ranges.n.fits c.in-471.is

pub returns-in-472 : goal.returns-in-472
returns-in-472 c = arm c.ranges.n.fits c.in-472.is

pub returns-in-473 : goal.returns-in-473
returns-in-473 c = arm c.ranges.n.fits c.in-473.is

pub returns-in-474 : goal.returns-in-474
returns-in-474 c = arm c.ranges.n.fits c.in-474.is

pub returns-in-475 : goal.returns-in-475
returns-in-475 c = arm c.ranges.n.fits c.in-475.is

pub returns-in-476 : goal.returns-in-476
returns-in-476 c = arm c.ranges.n.fits c.in-476.is

pub returns-in-477 : goal.returns-in-477
returns-in-477 c = arm c.ranges.n.fits c.in-477.is

pub returns-in-478 : goal.returns-in-478
returns-in-478 c = arm c.ranges.n.fits c.in-478.is

pub returns-in-479 : goal.returns-in-479
returns-in-479 c = arm c.ranges.n.fits c.in-479.is

pub returns-in-480 : goal.returns-in-480
returns-in-480 c = arm c.ranges.n.fits c.in-480.is

pub returns-in-481 : goal.returns-in-481
returns-in-481 c = arm c.ranges.n.fits c.in-481.is

pub returns-in-482 : goal.returns-in-482
returns-in-482 c = arm c.ranges.n.fits c.in-482.is

pub returns-in-483 : goal.returns-in-483
returns-in-483 c = arm c.ranges.n.fits c.in-483.is

pub returns-in-484 : goal.returns-in-484
returns-in-484 c = arm c.ranges.n.fits c.in-484.is

pub returns-in-485 : goal.returns-in-485
returns-in-485 c = arm c.ranges.n.fits c.in-485.is

pub returns-in-486 : goal.returns-in-486
returns-in-486 c = arm c.ranges.n.fits c.in-486.is

pub returns-in-487 : goal.returns-in-487
returns-in-487 c = arm c.ranges.n.fits c.in-487.is

pub returns-in-488 : goal.returns-in-488
returns-in-488 c = arm c.ranges.n.fits c.in-488.is

pub returns-in-489 : goal.returns-in-489
returns-in-489 c = arm c.ranges.n.fits c.in-489.is

pub returns-in-490 : goal.returns-in-490
returns-in-490 c = arm c.ranges.n.fits c.in-490.is

pub returns-in-491 : goal.returns-in-491
returns-in-491 c = arm c.ranges.n.fits c.in-491.is

pub returns-in-492 : goal.returns-in-492
returns-in-492 c = arm c.ranges.n.fits c.in-492.is

pub returns-in-493 : goal.returns-in-493
returns-in-493 c = arm c.ranges.n.fits c.in-493.is

pub returns-in-494 : goal.returns-in-494
returns-in-494 c = arm c.ranges.n.fits c.in-494.is

pub returns-in-495 : goal.returns-in-495
returns-in-495 c = arm c.ranges.n.fits c.in-495.is

pub returns-in-496 : goal.returns-in-496
returns-in-496 c = arm c.ranges.n.fits c.in-496.is

pub returns-in-497 : goal.returns-in-497
returns-in-497 c = arm c.ranges.n.fits c.in-497.is

pub returns-in-498 : goal.returns-in-498
returns-in-498 c = arm c.ranges.n.fits c.in-498.is

pub returns-in-499 : goal.returns-in-499
returns-in-499 c = arm c.ranges.n.fits c.in-499.is

pub returns-in-500 : goal.returns-in-500
returns-in-500 c = arm c.ranges.n.fits c.in-500.is

pub returns-in-501 : goal.returns-in-501
returns-in-501 c = arm c.ranges.n.fits c.in-501.is

pub returns-in-502 : goal.returns-in-502
returns-in-502 c = arm c.ranges.n.fits c.in-502.is

pub returns-in-503 : goal.returns-in-503
returns-in-503 c = arm c.ranges.n.fits c.in-503.is

pub returns-in-504 : goal.returns-in-504
returns-in-504 c = arm c.ranges.n.fits c.in-504.is

pub returns-in-505 : goal.returns-in-505
returns-in-505 c = arm c.ranges.n.fits c.in-505.is

pub returns-in-506 : goal.returns-in-506
returns-in-506 c = arm c.ranges.n.fits c.in-506.is

pub returns-in-507 : goal.returns-in-507
returns-in-507 c = arm c.ranges.n.fits c.in-507.is

pub returns-in-508 : goal.returns-in-508
returns-in-508 c = arm c.ranges.n.fits c.in-508.is

pub returns-in-509 : goal.returns-in-509
returns-in-509 c = arm c.ranges.n.fits c.in-509.is

pub returns-in-510 : goal.returns-in-510
returns-in-510 c = arm c.ranges.n.fits c.in-510.is

pub returns-in-511 : goal.returns-in-511
returns-in-511 c = arm c.ranges.n.fits c.in-511.is

pub returns-in_default : goal.returns-in_default
returns-in_default c = absurd (never c.args.n c.in_default.in_default-own.rest c.ranges.n.fits)
