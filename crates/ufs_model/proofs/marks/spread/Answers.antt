use Rattle.std.proofs.Common.{◌≡◌, ◌++◌, ◌∷◌, [], sym, ◌∙◌, ap, take, get_or, true, ◌+◌, add-one, refl}
use Rattle.ufs_model.proofs.Words.{BTreeSet, Edge, Puid, Seen, is_among, take-suc}
use Rattle.ufs_model.proofs.Spreading.{to_none, to_new, to_old, turned, was_in, was_out}
use Rattle.ufs_model.proofs.marks.spread.Goals as goal
use Rattle.ufs_model.proofs.marks.spread.Goals.{in-Some+in_ok-insert+then-branch, in-Some+in_ok-insert+else-branch, in_default}

pub seen-preserved : goal.seen-preserved
seen-preserved c =
    let none : Seen = Edge (record { block = 0; word = 0 }) (record { block = 0; word = 0 }) in
    let seen = c.args.seen.now in
    let k = c.seen.one-index in
    let s = get_or seen k none in
    let old = c.args.reached.now.keys in
    let now = c.seen.reached.keys in
    let next : take (k + 1) seen ≡ take k seen ++ s ∷ [] = rw add-one (take-suc seen k none c.seen-test.true) in
    elim c.match-leads_to.branch [
      | in-Some+in_ok-insert+then-branch w ↦
          let to = sym c.leads_to.ensures ∙ w.in-Some.is in
          turned seen (take k seen) _ s old w.insert.new.self.keys _ true _ next (ap (λ (v : BTreeSet Puid). v.keys) w.reached-is) w.grew-is
          (to_new seen (take k seen) old now c.seen.grew c.seen.invariant s w.in-Some.id k none w.insert.new.self.keys (take k seen ++ s ∷ []) c.seen-test.true refl to
          (was_out (is_among w.in-Some.id now) _ w.in_ok-insert.ensures.added w.if-branch.true) (λ y. w.in_ok-insert.ensures.updates.0 y))
      | in-Some+in_ok-insert+else-branch w ↦
          let to = sym c.leads_to.ensures ∙ w.in-Some.is in
          let same : w.insert.new.self.keys ≡ now = rw w.if-branch.false at w.in_ok-insert.ensures.unchanged in
          turned seen (take k seen) _ s old now _ c.seen.grew _ next (ap (λ (v : BTreeSet Puid). v.keys) w.reached-is ∙ same) w.grew-is
          (to_old seen (take k seen) old now c.seen.grew c.seen.invariant s w.in-Some.id to (was_in (is_among w.in-Some.id now) _ w.in_ok-insert.ensures.added w.if-branch.false))
      | in_default w ↦
          turned seen (take k seen) _ s old now _ c.seen.grew _ next (ap (λ (v : BTreeSet Puid). v.keys) w.reached-is) w.grew-is
          (to_none seen (take k seen) old now c.seen.grew c.seen.invariant s (sym c.leads_to.ensures ∙ w.in_default.is))
    ]
