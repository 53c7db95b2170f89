use Rattle.std.proofs.Common.{◌≡◌, ◌∙◌, ◌∷◌, ◌++◌, ◌+◌, Vec, Global, List, add-one, drop, ap, subst, sym, map}
use Rattle.ufs_model.proofs.Words.{Edge, Grant, append-nil, Seen, draft_pairs, drop-cons, edges_of}
use Rattle.ufs_model.proofs.Remembered.{drafted_none, drafted_some, seen_one}
use Rattle.ufs_model.proofs.vanish.see_drafts.Goals as goal
use Rattle.ufs_model.proofs.vanish.see_drafts.Goals.{in-Some+in_ok-see_slots, in_default}

pub grants-preserved : goal.grants-preserved
grants-preserved c =
    let gs = c.args.grants.now in
    let k = c.grants.grant-index in
    let g = c.grant-item.result in
    let cut : drop k gs ≡ g ∷ drop (k + 1) gs = (rw add-one (drop-cons gs k g c.grants-test.true)) ∙ ap (λ (x : Grant). x ∷ drop (k + 1) gs) (sym c.grant-item.is) in
    let h = subst (λ (l : List Grant). c.grants.seen.items ++ edges_of (draft_pairs l) ≡ c.args.seen.now.items ++ edges_of (draft_pairs gs)) cut c.grants.invariant in
    seen_one g (drop (k + 1) gs) c.grants.seen.items c.match-grant.seen.items _ h (elim c.match-grant.branch [
      | in-Some+in_ok-see_slots w ↦
          ap (λ (v : Vec Seen Global). v.items) w.seen-is ∙ w.in_ok-see_slots.ensures ∙ ap (λ l. c.grants.seen.items ++ map (λ x. Edge g.id x) l) (sym (drafted_some g w.in-Some.draft w.in-Some.is))
      | in_default w ↦
          ap (λ (v : Vec Seen Global). v.items) w.seen-is ∙ sym (append-nil c.grants.seen.items) ∙ ap (λ l. c.grants.seen.items ++ map (λ x. Edge g.id x) l) (sym (drafted_none g w.in_default.is))
    ])
