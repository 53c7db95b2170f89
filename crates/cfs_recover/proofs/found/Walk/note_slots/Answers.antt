use Rattle.std.proofs.Common.{◌≡◌, inl, inr, sym, ◌∙◌, ap, subst, arith}
use Rattle.cfs_recover.proofs.Words.{Walk, cases_lt, same_Some, slot_in}
use Rattle.cfs_recover.specs.Found as spec
use Rattle.cfs_recover.proofs.Good.{noted_on}
use Rattle.cfs_recover.proofs.Noting.{grows_then}
use Rattle.cfs_recover.proofs.found.Walk.note_slots.Goals as goal
use Rattle.cfs_recover.proofs.found.Walk.note_slots.Goals.{in-Some+in_ok-note, in_default}

pub loop-slot-preserved : goal.loop-slot-preserved
loop-slot-preserved c = record {
  told = λ image done walk named.
      let before = c.loop-slot.invariant.told image done walk named in
      elim c.match-slot_at.branch [
        | in-Some+in_ok-note w ↦ subst (λ (v : Walk). spec.IsWalk image v done) (sym w.self-is)
            (w.in_ok-note.ensures.told image done before (named c.loop-slot.slot w.in-Some.id (c.loop-slot-test.true, c.if-leaf-slot.false, sym c.slot_at.ensures ∙ w.in-Some.is)))
        | in_default w ↦ subst (λ (v : Walk). spec.IsWalk image v done) (sym w.self-is) before
      ];
  noted = λ s id less slot. elim c.match-slot_at.branch [
    | in-Some+in_ok-note w ↦ subst (λ (v : Walk). spec.IsNotedIn v id) (sym w.self-is) (elim (cases_lt s c.loop-slot.slot) [
      | inl before ↦ noted_on _ _ w.in_ok-note.ensures.grows id (c.loop-slot.invariant.noted s id before slot)
      | inr last ↦
          let here : s ≡ c.loop-slot.slot = omega arith in
          let is : w.in-Some.id ≡ id = same_Some _ _ (sym (sym c.slot_at.ensures ∙ w.in-Some.is) ∙ ap (slot_in c.args.content.now) (sym here) ∙ slot.2) in
          subst (spec.IsNotedIn w.note.new.self) is w.in_ok-note.ensures.noted
    ])
    | in_default w ↦ subst (λ (v : Walk). spec.IsNotedIn v id) (sym w.self-is) (elim (cases_lt s c.loop-slot.slot) [
      | inl before ↦ c.loop-slot.invariant.noted s id before slot
      | inr last ↦
          let here : s ≡ c.loop-slot.slot = omega arith in
          absurd (w.in_default.not-Some id (c.slot_at.ensures ∙ ap (slot_in c.args.content.now) (sym here) ∙ slot.2))
    ])
  ];
  grows = elim c.match-slot_at.branch [
    | in-Some+in_ok-note w ↦ subst (λ (v : Walk). spec.Grows c.args.self.now v) (sym w.self-is) (grows_then _ _ _ c.loop-slot.invariant.grows w.in_ok-note.ensures.grows)
    | in_default w ↦ subst (λ (v : Walk). spec.Grows c.args.self.now v) (sym w.self-is) c.loop-slot.invariant.grows
  ];
}
