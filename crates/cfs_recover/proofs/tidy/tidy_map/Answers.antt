use Rattle.std.proofs.Common.{◌≡◌, ◌≢◌, ◌+◌, ◌*◌, ◌<◌, inl, inr, false, List, length, get_or, Some, sym, ◌∙◌, ap, subst, arith}
use Rattle.cfs_recover.proofs.Words.{IsEntry, MapEntry, cases_lt, is_fixed, same_Some, slice_get, slice_get_within, tidied}
use Rattle.cfs_recover.proofs.TidiedEntries.{tidied_entry}
use Rattle.cfs_recover.proofs.TidyMaps.{entry_of_map, set_here, set_there}
use Rattle.cfs_recover.proofs.tidy.tidy_map.Goals as goal

pub set-requires-clause-entry : goal.set-requires-clause-entry
set-requires-clause-entry c =
    subst IsEntry (sym c.tidied.ensures) (tidied_entry _ _ c.get.result (entry_of_map c.args.map.now c.loop-entry.entry c.get.result c.get.ensures.map.each c.get.ensures.got))

pub loop-entry-preserved : goal.loop-entry-preserved
loop-entry-preserved c =
    let n = c.loop-entry.entry in
    let map = c.args.map.now in
    let old = c.loop-entry.tidy in
    let before = c.loop-entry.invariant in
    let inside : n < length old = slice_get_within old n c.get.result (before.from n (omega arith) ∙ c.get.ensures.got) in
    record {
      below = λ k e less at. elim (cases_lt k n) [
        | inl lower ↦
            let other : k ≢ n = λ same. absurd (omega (arith, same, lower)) in
            ap (λ (es : List MapEntry). slice_get es k) c.set.ensures.set ∙ set_there old n k c.tidied.result other ∙ before.below k e lower at
        | inr last ↦
            let here : k ≡ n = omega arith in
            let it : c.get.result ≡ e = same_Some _ _ (sym c.get.ensures.got ∙ ap (slice_get map) (sym here) ∙ at) in
            ap (λ (es : List MapEntry). slice_get es k) c.set.ensures.set ∙ ap (slice_get _) here ∙ set_here old n c.tidied.result inside ∙ ap Some c.tidied.ensures
            ∙ (λ i. Some (tidied (is_fixed (64 * c.args.cylinder + sym here i)) (get_or c.args.held.now (64 * c.args.cylinder + sym here i) false) (it i)))
      ];
      from = λ k le.
          let other : k ≢ n = λ same. absurd (omega (arith, same, le)) in
          ap (λ (es : List MapEntry). slice_get es k) c.set.ensures.set ∙ set_there old n k c.tidied.result other ∙ before.from k (omega arith);
      whole = inr c.set.ensures.map;
    }
