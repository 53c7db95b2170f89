-- A cylinder that was swept, in the words of the graph.
use Rattle.std.proofs.Common.{◌≡◌, inl, inr, ℕ, ◌/◌, ◌==◌, ◌&&◌, List, Bool, true, false, cond, not, Option, Some, None, refl, sym, ◌∙◌, ap, option_map}
use Rattle.cfs_core.proofs.Words.{Graph, Image, IsPhaseOf, IsSweptOf, Kind, MapEntry, Pass, Phase, Puid, and_from, and_parts, cylinder_of, entry_in, eq-eqb, unheld_entry, goes, goes_stray, has_block, has_root_in, is_made, is_of_pass, is_placed, is_root, is_stray, is_taken, keys_of-kinds_in, kinds_of, list_any, ne_eqb, not-true, stray_goes, swept}
use Rattle.std.specs.Cmp as cmp
use Rattle.std.proofs.lemmas.Bool.{cases_eq}
use Rattle.collector_steps.specs.declared.phase.Phase.TheVariants as phases
use Rattle.collector_steps.specs.declared.sweep.Pass.TheVariants as passes
use Rattle.cfs_core.specs.Sweeping.{FreesStrays, IsCleanCylinder, is_swept_now}
use Rattle.collector_steps.specs.Sweep.{NoneGoes}

module _ (directory : List (Puid × Kind)) (g : Graph) (are : directory ≡ kinds_of g) where
  roots : (r : ℕ) → has_root_in directory r ≡ has_block g.objects r
  roots r = ap (λ named. has_root_in named r) are ∙ ap (λ ids. list_any (λ id. id.block == r) ids) (keys_of-kinds_in g.objects)

  -- what goes by the directory is what is freed by the graph
  goes_is : (pass : Pass) (p : Phase) → IsPhaseOf pass p → (e : MapEntry) → goes directory pass e ≡ is_swept_now g p (Some e)
  goes_is pass phases.Idle is e = absurd is
  goes_is pass phases.Marking is e = absurd is
  goes_is passes.Inner (phases.Inner c) is e = cmp.both_ways _ _
      (λ h.
      let of = (and_parts (is_of_pass passes.Inner e) (not (has_root_in directory e.owner)) h).0 in
      and_from _ _ (goes_stray directory g roots passes.Inner e h) (and_parts (is_placed is_taken (Some e)) (not (is_root is_taken (Some e))) of).1)
      (λ h. let two = and_parts (is_stray g (Some e)) _ h in stray_goes directory g roots passes.Inner e two.0 (not-true _ two.1))
  goes_is passes.Roots (phases.Inner c) is e = absurd is
  goes_is passes.Inner (phases.Roots c) is e = absurd is
  goes_is passes.Roots (phases.Roots c) is e = cmp.both_ways _ _
      (λ h.
      let of = (and_parts (is_of_pass passes.Roots e) (not (has_root_in directory e.owner)) h).0 in
      and_from _ _ (goes_stray directory g roots passes.Roots e h) (and_parts (is_root is_taken (Some e)) (not (is_made (Some e))) of).0)
      (λ h. let two = and_parts (is_stray g (Some e)) _ h in stray_goes directory g roots passes.Roots e two.0 two.1)
  goes_is pass phases.Swept is e = absurd is

  pub clean_goes : (pass : Pass) (p : Phase) → IsPhaseOf pass p → (a : Image) → IsCleanCylinder g p a → NoneGoes directory pass (cylinder_of p) a
  clean_goes pass p is a clean n e here was = goes_is pass p is e ∙ ap (is_swept_now g p) (sym was) ∙ clean n here

  module _ (pass : Pass) (p : Phase) (is : IsPhaseOf pass p) (a b : Image) (sweep : IsSweptOf directory pass (cylinder_of p) a b) where
    freed_one : (e : MapEntry) (t : Bool) → Some (cond t unheld_entry e) ≡ cond t (Some unheld_entry) (Some e)
    freed_one e true = refl
    freed_one e false = refl

    one : (e : Option MapEntry) → option_map (swept directory pass) e ≡ cond (is_swept_now g p e) (Some unheld_entry) e
    one None = refl
    one (Some e) = ap (λ (t : Bool). Some (cond t unheld_entry e)) (goes_is pass p is e) ∙ freed_one e (is_swept_now g p (Some e))

    pub frees_strays : FreesStrays g p a b
    frees_strays = record {
      size = sweep.size;
      contents = sweep.contents;
      entries = λ n. elim (cases_eq (n / 64) (cylinder_of p)) [
        | inl here ↦ sweep.here n here ∙ one (entry_in a n)
            ∙ ap (λ (t : Bool). cond (t && is_swept_now g p (entry_in a n)) (Some unheld_entry) (entry_in a n)) (sym (eq-eqb (n / 64) (cylinder_of p) here))
        | inr away ↦ sweep.elsewhere n away
            ∙ ap (λ (t : Bool). cond (t && is_swept_now g p (entry_in a n)) (Some unheld_entry) (entry_in a n)) (sym (ne_eqb (n / 64) (cylinder_of p) away))
      ];
    }
