use Prim.Native.Nat.{◌≤◌}
use lib.ListN.{length}
use native.Mathlib.Omega.{arith}
use Rattle.lister_text.proofs.Listings.{put-fits}
use Rattle.lister_text.proofs.list_in_full.Goals as goal

pub returns-clause-value : goal.returns-clause-value
returns-clause-value c =
    let p = c.put_text.ensures in
    let fits : c.put_text.result ≤ length c.args.out.now = omega (arith, p.1) in
    (omega (arith, p.0.further), put-fits _ c.args.out.now _ _ p.0 fits)
