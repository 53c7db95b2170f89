-- A session's grants are dropped, one after the other, and then it has left.
use Rattle.std.proofs.Common.{◌≡◌, ◌⊎◌, ⊎_elim, inl, inr, ℕ, List, [], ◌∷◌, ◌++◌, length, Bool, true, false, cond, not, Option, Some, None, IsTrue, refl, sym, ◌∙◌, ap, subst, arith, ◌==◌, find, map, option_map}
use Rattle.cfs_core.proofs.Words.{after_leave, Ghosts, Grant, Holds, Image, Leaves, loose, State, stopped_at, then, without_session-none}
use Rattle.open_table.specs.declared.grant.OpenGrant as handles
use Rattle.open_table.specs.Grants as tables
use Rattle.ufs_model.specs.declared.asked.Event.TheVariants as events
use Rattle.cfs_core.specs.declared.kernel.Stop.{Stop}
use Rattle.cfs_core.specs.Asked.{Happens, halted}
use Rattle.cfs_core.specs.Calls.{AddsNoStray}
use Rattle.cfs_core.specs.Kernel.{Kernel, grants_in}
use Rattle.cfs_base.proofs.Calls.{failed_since}
use Rattle.cfs_core.specs.Leaving.{ServesFewer, Sheds, StopsSo, halt_of, objects_of, of_others}
use Rattle.std.proofs.lemmas.List.{append-nil, append_assoc}
use Rattle.cyl_alloc.specs.Space.{Kept}
use Rattle.special_files.specs.Committing.{draft_top}
use Rattle.special_files.specs.Refusal.{IsDraftDamage}
use Rattle.open_table.proofs.Lists.{grants_of-none}
use Rattle.cfs_core.proofs.Collected.{ended_then, same_rescued}
use Rattle.cfs_core.proofs.Damages.{told_as}
use Rattle.cfs_core.specs.StandsFor.{IsFront, ServesIs, Stands, StandsFor, bare, end_in, front_of}
use Rattle.cfs_core.proofs.Serving.{fewer_lost, fits, honest, none_more, pending, running, nothing_left}
use Rattle.cfs_core.proofs.Stored.{length_in}

module _ {D : Type 0} (g : Ghosts D) (who : ℕ) where
  pub sheds_none : (k : Kernel D) → Sheds g who k k
  sheds_none k = record {
    words = refl;
    directory = refl;
    over = [];
    dropped = refl;
    stood = λ draw was has. has;
    ended = same_rescued k.collections.collector;
    called = refl;
    finished = refl;
    others = refl;
    size = refl;
    faults = omega arith;
    later = omega arith;
    idle = λ stop is. (is, refl, refl);
    leaves = λ s serves none. nothing_left g k.disk (λ c. Holds c s.graph);
    serves = λ s serves none runs. record { grants = s.grants; serves = serves; others = refl };
    strays = λ s serves none runs. none_more (end_in g k) (end_in g k) s.graph refl;
    halts = λ stop none is. let no : None ≡ Some stop = sym none ∙ is in cc;
    sound = λ s serves none stop is. let no : None ≡ Some stop = sym none ∙ is in cc;
    left = λ runs. inl refl;
  }

  module _ (a b c : Kernel D) (one : Sheds g who a b) (two : Sheds g who b c) where
    -- where it runs in the end it ran in between
    between : (o : Option Stop) → b.stop ≡ o → c.stop ≡ None → b.stop ≡ None
    between None is none = is
    between (Some stop) is none = let no : None ≡ Some stop = sym none ∙ (two.idle stop is).0 in cc

    leaves_both : (s : State) → ServesIs g a s → a.stop ≡ None → (o : Option Stop) → b.stop ≡ o → Leaves g a.disk c.disk (λ i. Holds i s.graph)
    leaves_both s serves none None is =
        let mid = one.serves s serves none is in
        then g a.disk b.disk c.disk (λ i. Holds i s.graph) (λ i. Holds i s.graph) (one.leaves s serves none) (two.leaves (record s { grants = mid.grants }) mid.serves is) (λ i h. h)
    leaves_both s serves none (Some stop) is = subst (λ d. Leaves g a.disk d (λ i. Holds i s.graph)) (sym (two.idle stop is).1) (one.leaves s serves none)

    serves_both : (s : State) → ServesIs g a s → a.stop ≡ None → c.stop ≡ None → ServesFewer g c s who
    serves_both s serves none runs =
        let mid = one.serves s serves none (between b.stop refl runs) in
        let last = two.serves (record s { grants = mid.grants }) mid.serves (between b.stop refl runs) runs in
        record { grants = last.grants; serves = last.serves; others = last.others ∙ mid.others }

    strays_both : (s : State) → ServesIs g a s → a.stop ≡ None → c.stop ≡ None → AddsNoStray (end_in g a) (end_in g c) s.graph s.graph
    strays_both s serves none runs n stray =
        let mid = one.serves s serves none (between b.stop refl runs) in
        let last = two.strays (record s { grants = mid.grants }) mid.serves (between b.stop refl runs) runs n stray in
        let first = one.strays s serves none (between b.stop refl runs) n last.1 in
        (last.0 ∙ first.0, first.1)

    halts_both : (stop : Stop) → a.stop ≡ None → c.stop ≡ Some stop → (o : Option Stop) → b.stop ≡ o → StopsSo g a c stop
    halts_both stop none is None mid = (let so = two.halts stop mid is in record {
      failed = λ quiet. (let f = so.failed quiet in (failed_since g a.disk b.disk c.disk one.later one.faults f.0, f.1));
      damaged = λ damage met. (let m = so.damaged damage met in (
        record { draw = m.0.draw; was = m.0.was; stood = one.stood m.0.draw m.0.was m.0.stood; mid = m.0.mid; later = omega (arith, one.later, m.0.later); is = m.0.is; told = m.0.told },
        m.1,
      ));
    })
    halts_both stop none is (Some was) mid =
        let still = two.idle was mid in
        let same : was ≡ stop = (let both : Some was ≡ Some stop = sym still.0 ∙ is in cc) in
        let so = one.halts stop none (mid ∙ ap (λ (x : Stop). Some x) same) in
        record {
          failed = λ quiet. rw still.1 (so.failed quiet);
          damaged = λ damage met. (let m = so.damaged damage met in (
            record {
              draw = m.0.draw;
              was = m.0.was;
              stood = m.0.stood;
              mid = m.0.mid;
              later = m.0.later;
              is = subst (λ (x : D). IsDraftDamage g (draft_top m.0.was) m.0.mid.disk x c.space damage) (sym still.1) (subst (λ (x : Kept). IsDraftDamage g (draft_top m.0.was) m.0.mid.disk b.disk x damage) (sym still.2) m.0.is);
              told = told_as g m.0.mid b c None damage still.1 still.2 m.0.told;
            },
            m.1 ∙ ap g.moment (sym still.1),
          ));
        }

    sound_both : (s : State) → ServesIs g a s → a.stop ≡ None → (stop : Stop) → c.stop ≡ Some stop → (o : Option Stop) → b.stop ≡ o → stop.damage ≡ None
    sound_both s serves none stop is None mid = let then_it = one.serves s serves none mid in two.sound (record s { grants = then_it.grants }) then_it.serves mid stop is
    sound_both s serves none stop is (Some was) mid =
        let same : was ≡ stop = (let both : Some was ≡ Some stop = sym (two.idle was mid).0 ∙ is in cc) in
        one.sound s serves none stop (mid ∙ ap (λ (x : Stop). Some x) same)

    left_both : c.stop ≡ None → (c.space.left ≡ a.space.left) ⊎ (c.space.left ≡ None)
    left_both runs = ⊎_elim (λ same. ⊎_elim (λ first. inl (same ∙ first)) (λ nothing. inr (same ∙ nothing)) (one.left (between b.stop refl runs))) (λ nothing. inr nothing) (two.left runs)

    pub sheds_then : Sheds g who a c
    sheds_then = record {
      words = two.words ∙ one.words;
      directory = two.directory ∙ one.directory;
      over = one.over ++ two.over;
      stood = λ draw was has. one.stood draw was (two.stood draw was has);
      dropped = one.dropped ∙ ap (λ ids. one.over ++ ids) two.dropped ∙ sym (append_assoc one.over two.over (objects_of (grants_in c.handles) who));
      ended = ended_then a.collections.collector b.collections.collector c.collections.collector one.over two.over one.ended two.ended;
      called = two.called ∙ one.called;
      finished = two.finished ∙ one.finished;
      others = two.others ∙ one.others;
      size = two.size ∙ one.size;
      faults = omega (arith, one.faults, two.faults);
      later = omega (arith, one.later, two.later);
      idle = λ stop is. let first = one.idle stop is in let last = two.idle stop first.0 in (last.0, last.1 ∙ first.1, last.2 ∙ first.2);
      leaves = λ s serves none. leaves_both s serves none b.stop refl;
      serves = serves_both;
      strays = strays_both;
      halts = λ stop none is. halts_both stop none is b.stop refl;
      sound = λ s serves none stop is. sound_both s serves none stop is b.stop refl;
      left = left_both;
    }

  -- ---- none of its grants is left

  none_left : (gs : List handles.OpenGrant) (grants : List Grant) → gs ≡ map bare grants → tables.first_grant gs who ≡ None → of_others who grants ≡ grants
  none_left [] [] table none = refl
  none_left [] (x ∷ grants) table none = cc
  none_left (y ∷ gs) [] table none = cc
  none_left (y ∷ gs) (x ∷ grants) table none =
      let head : y ≡ bare x = cc in
      let tail : gs ≡ map bare grants = cc in
      at (y.session == who) (ap (λ (e : handles.OpenGrant). e.session == who) head) none (λ h. none_left gs grants tail h)
    where
      at : (b : Bool) → b ≡ (x.session == who) → cond b (Some y) (find (λ e. e.session == who) gs) ≡ None → (find (λ e. e.session == who) gs ≡ None → of_others who grants ≡ grants)
          → cond (not (x.session == who)) (x ∷ of_others who grants) (of_others who grants) ≡ x ∷ grants
      at true is h rest = cc
      at false is h rest = rw (← is) (ap (λ zs. x ∷ zs) (rest h))

  others_bare : (grants : List Grant) → tables.without_session (map bare grants) who ≡ map bare (of_others who grants)
  others_bare [] = refl
  others_bare (x ∷ grants) = elim (x.session == who) as (λ b. cond (not b) (bare x ∷ tables.without_session (map bare grants) who) (tables.without_session (map bare grants) who) ≡ map bare (cond (not b) (x ∷ of_others who grants) (of_others who grants))) [
    | true ↦ others_bare grants
    | false ↦ ap (λ zs. bare x ∷ zs) (others_bare grants)
  ]

  -- its grants are those that were dropped
  pub all_dropped : (old new : Kernel D) (sheds : Sheds g who old new) → tables.first_grant (grants_in new.handles) who ≡ None → sheds.over ≡ objects_of (grants_in old.handles) who
  all_dropped old new sheds none = sym (sheds.dropped ∙ ap (λ gs. sheds.over ++ map (λ (e : handles.OpenGrant). e.id) gs) (grants_of-none (grants_in new.handles) who none) ∙ append-nil sheds.over)

  -- ---- the session has left

  module _ (left_sized : (d : D) (t : ℕ) (c : Image) → g.left_since d t c → length c ≡ g.blocks d) (sized : (d : D) → IsTrue (g.honest d) → length (g.content d) ≡ g.blocks d)
      (old new : Kernel D) (sheds : Sheds g who old new) (none : tables.first_grant (grants_in new.handles) who ≡ None) (s : State) where
    -- what any core says then, that stopped so
    front_left : IsFront old s → IsFront new (record (after_leave s who) { stopped = option_map (λ stop. stop.moment) new.stop })
    front_left front = record {
      drawn = front.drawn ∙ sym (ap (λ w. w.drawn) sheds.words);
      directory = ap (λ n. n.named) sheds.directory ∙ front.directory;
      grants = sym (without_session-none (grants_in new.handles) who none) ∙ sheds.others ∙ ap (λ gs. tables.without_session gs who) front.grants ∙ others_bare s.grants;
      stopped = refl;
    }

    left_stands : StandsFor g old s → (o : Option Stop) → old.stop ≡ o → (p : Option Stop) → new.stop ≡ p → Happens g old new s (events.Leave who (halted (halt_of o p)))
    left_stands stands (Some stop) was p is =
        let same = sheds.idle stop was in
        let front = front_of g old s stands in
        record {
          after = after_leave s who;
          step = refl;
          stands = subst (Stands g new (after_leave s who)) (sym same.0)
              (subst (λ (o : Option ℕ). IsFront new (record (after_leave s who) { stopped = o })) (ap (option_map (λ (x : Stop). x.moment)) (same.0 ∙ sym was) ∙ sym front.stopped) (front_left front));
          survives = inr (record { disk = same.1; after = after_leave s who; step = refl; graph = refl });
          lost = λ runs. let no : None ≡ Some stop = sym runs ∙ same.0 in cc;
        }
    left_stands stands None was None is =
        let serves = subst (Stands g old s) was stands in
        let fewer = sheds.serves s serves was is in
        let all : fewer.grants ≡ of_others who s.grants = sym (none_left (grants_in new.handles) fewer.grants fewer.serves.front.grants none) ∙ fewer.others in
        record {
          after = after_leave s who;
          step = refl;
          stands = subst (Stands g new (after_leave s who)) (sym is) (subst (λ (gs : List Grant). ServesIs g new (record s { grants = gs })) all fewer.serves);
          survives = inl (loose g left_sized old.words.seed s old.disk new.disk (fits g old s serves (g.blocks new.disk) (sized old.disk (honest g old s serves) ∙ sym sheds.size)) (events.Leave who None) (after_leave s who) refl refl
              (sheds.leaves s serves was) (pending g old s serves));
          lost = λ runs. fewer_lost (end_in g old) (end_in g new) s.graph s.graph
              (length_in (g.content new.disk) new.space.left ∙ sized new.disk (honest g new (record s { grants = fewer.grants }) fewer.serves) ∙ sheds.size ∙ sym (sized old.disk (honest g old s serves)) ∙ sym (length_in (g.content old.disk) old.space.left)) (sheds.strays s serves was is);
        }
    left_stands stands None was (Some stop) is =
        let serves = subst (Stands g old s) was stands in
        let after = stopped_at stop.moment (after_leave s who) in
        record {
          after = after;
          step = rw (running g old s serves was) refl;
          stands = subst (Stands g new after) (sym is)
              (subst (λ (o : Option Stop). IsFront new (record (after_leave s who) { stopped = option_map (λ (x : Stop). x.moment) o })) is (front_left serves.front));
          survives = inl (loose g left_sized old.words.seed s old.disk new.disk (fits g old s serves (g.blocks new.disk) (sized old.disk (honest g old s serves) ∙ sym sheds.size)) (events.Leave who (Some stop.moment)) after
              (rw (running g old s serves was) refl) refl (sheds.leaves s serves was) (pending g old s serves));
          lost = λ runs. let no : None ≡ Some stop = sym runs ∙ is in cc;
        }

    pub has_left : StandsFor g old s → Happens g old new s (events.Leave who (halted (halt_of old.stop new.stop)))
    has_left stands = left_stands stands old.stop refl new.stop refl
