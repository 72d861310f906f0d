-- SharedAdd's item and inline size, computed: the key is (bytenr, kind, parent), 184 counts and 182 does not, and no other type is
-- a shared one. Assumes nothing.
use mathlib.Core.Path.{◌≡◌, refl}
use mathlib.Core.List.{[], ◌∷◌}
use Rattle.fields.specs.Numbers.{le_bytes}
use Rattle.format.specs.Questions.{refused, accepted, ask}
use Rattle.format.specs.References.{row_in, payload_length, count_position, counted}
use Rattle.format.specs.Bodies.{shared_kind, shared_add_key, shared_add_item, shared_add_inline_size}

key-184 : shared_add_key 4096 (record { kind = 184; parent = 8192 }) ≡ accepted (record { objectid = 4096; kind = 184; offset = 8192 })
unfolding shared_add_key ask shared_kind
key-184 = refl

key-178 : shared_add_key 4096 (record { kind = 178; parent = 8192 }) ≡ refused 3
unfolding shared_add_key ask shared_kind
key-178 = refl

item-182 : shared_add_item 182 258 ≡ accepted []
unfolding shared_add_item ask shared_kind counted count_position row_in
item-182 = refl

item-184 : shared_add_item 184 258 ≡ accepted (2 ∷ 1 ∷ 0 ∷ 0 ∷ [])
unfolding shared_add_item ask shared_kind counted count_position row_in le_bytes
item-184 = refl

size-182 : shared_add_inline_size 182 ≡ accepted 9
unfolding shared_add_inline_size ask shared_kind payload_length row_in
size-182 = refl

size-184 : shared_add_inline_size 184 ≡ accepted 13
unfolding shared_add_inline_size ask shared_kind payload_length row_in
size-184 = refl
