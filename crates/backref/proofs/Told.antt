-- Laws of the call that only asks, one for each way out. Assumes nothing.
use mathlib.Core.Path.{◌≡◌, sym, ap, ◌∙◌}
use mathlib.Core.Bool.{true, false}
use mathlib.Core.Option.{Option as Maybe}
use mathlib.Core.List.{List}
use Prim.Native.Nat.{ℕ}
use Rattle.std.specs.Prelude.{Option, Some, None, Ok}
use Rattle.std.specs.Option.{is_some}
use Rattle.format.proofs.Bodies.{on-body}
use Rattle.fields.specs.Lists.{Cut}
use Rattle.format.specs.declared.DataRef.{DataRef}
use Rattle.format.specs.Questions.{accepted, told_of, denied}
use Rattle.format.specs.References.{Ref, start_of}
use Rattle.format.specs.Bodies.{is_found, holds_inline_data_ref}
use Rattle.inline_refs.specs.declared.ref_name.RefName.TheVariants.{Data}
use Rattle.inline_refs.specs.declared.noted.Found.{Found}
use Rattle.inline_refs.specs.declared.scan.Seen.{Seen}
use Rattle.inline_refs.specs.declared.scan.Seen.TheVariants.{Open}
use Rattle.inline_refs.specs.Scans.{kind_of, fields_of, scan_of, refs_in, hit_of}
use Rattle.inline_refs.proofs.RefPositions.{found-view}
use Rattle.backref.proofs.AddedAt.{ReadIn, scan-faults}

module _ (type : ℕ) (d : List ℕ) (name : DataRef) where
  pub holds-fault : (n : ℕ) → denied n ≡ scan_of (Data name) 0 (start_of type d) (Open false) (refs_in type d)
      → denied n ≡ told_of (holds_inline_data_ref type d name)
  unfolding told_of holds_inline_data_ref
  holds-fault n e = sym (ap told_of (scan-faults type d (Data name) 0 n _ e))

  module _ (seen : Seen) (r : ReadIn type d (Data name) 0 seen) where
    pub holds-no : None ≡ hit_of seen → Ok false ≡ told_of (holds_inline_data_ref type d name)
    unfolding told_of holds_inline_data_ref is_found kind_of fields_of
    holds-no e =
        sym (ap told_of (on-body type d r.from _ r.fits r.read
        ∙ ap (λ (o : Maybe (Cut Ref)). accepted (is_found o)) (found-view (Data name) 0 (start_of type d) r.from.refs seen None e r.view)))

    pub holds-yes : (f : Found) → Some f ≡ hit_of seen → Ok true ≡ told_of (holds_inline_data_ref type d name)
    unfolding told_of holds_inline_data_ref is_found kind_of fields_of
    holds-yes f e =
        sym (ap told_of (on-body type d r.from _ r.fits r.read
        ∙ ap (λ (o : Maybe (Cut Ref)). accepted (is_found o)) (found-view (Data name) 0 (start_of type d) r.from.refs seen (Some f) e r.view).cuts))

    -- the answer by whether the search found it
    pub holds-found : (o : Option Found) → o ≡ hit_of seen → Ok (is_some o) ≡ told_of (holds_inline_data_ref type d name)
    holds-found None e = holds-no e
    holds-found (Some f) e = holds-yes f e
