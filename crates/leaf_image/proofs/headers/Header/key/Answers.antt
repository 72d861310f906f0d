use mathlib.Core.Path.{ap₂, ◌∙◌}
use Prim.Native.Nat.{ℕ, ◌+◌}
use lib.ListN.{get_or}
use Rattle.format.specs.Items.{key_of}
use Rattle.format.proofs.LeafImages.{key-is}
use Rattle.leaf_image.proofs.headers.Header.key.Goals as goal

pub returns : goal.returns
returns c =
    let h = c.args.self in
    ap₂ (λ (o p : ℕ). key_of o (get_or h.image.now (h.at + 8) 0) p) c.get_u64_le.ensures c.get_u64_le-2.ensures ∙ key-is h.image.now h.at
