-- A grant of a session that leaves is dropped.
use Rattle.std.proofs.Common.{◌≡◌, ◌⊎◌, inl, inr, ℕ, List, [], ◌∷◌, Bool, true, false, cond, not, Option, Some, None, refl, sym, ◌∙◌, ap, subst, arith, ◌==◌, filter, find, map, is_some, option_and_then, IsTrue}
use Rattle.std.specs.Prelude.{◌&&◌}
use Rattle.cfs_core.proofs.Words.{and_parts, list_all, nat_tests, not-true, or_parts, same_tuid, closed, Drafting, Ghosts, Grant, grant_of, Holds, is_grant, next, outcome_legal, Puid, State, Tuid, without_session-without_grant}
use Rattle.open_table.specs.declared.grant.OpenGrant as handles
use Rattle.open_table.specs.Grants as tables
use Rattle.ufs_model.specs.declared.asked.Event.TheVariants as events
use Rattle.ufs_model.specs.declared.asked.Reply.TheVariants as replies
use Rattle.ufs_model.specs.declared.asked.Request.TheVariants as asks
use Rattle.cfs_core.specs.Kernel.{Kernel, Handle, grants_in}
use Rattle.cfs_base.specs.Disk.{Image}
use Rattle.intentions.specs.Left.{final_image}
use Rattle.cfs_core.specs.declared.kernel.Stop.{Stop}
use Rattle.cfs_core.specs.Calls.{AddsNoStray}
use Rattle.cfs_core.specs.Leaving.{GaveUp, GivesUp, IsGivenUp, ServesFewer, Sheds, objects_of, of_others}
use Rattle.cfs_core.proofs.Joined.{serves_finished}
use Rattle.cfs_core.specs.Handles.{drafting_at, have_draft, is_at, is_drawn, handles_but, with_drafting}
use Rattle.cfs_core.specs.StandsFor.{CoreServes, ServesIs, end_in}
use Rattle.cfs_core.specs.Rescues.{AreRescued, ended_by}
use Rattle.cfs_core.specs.declared.collecting.Collections.{Collections}
use Rattle.cfs_core.proofs.Collected.{collection_asked}
use Rattle.cfs_core.proofs.Damages.{told_of_draft}
use Rattle.cfs_core.proofs.Drafted.{but_with}
use Rattle.cfs_core.proofs.Ended.{stores_aborted, strays_aborted}
use Rattle.cfs_core.proofs.Views.{IsHeld, draft_seen, held_by}
use Rattle.special_files.specs.View.{DraftSeen}
use Rattle.cfs_core.proofs.Granted.{close_goes, stores_closed}
use Rattle.cfs_core.proofs.Handled.{grants_with, none_taken}
use Rattle.cfs_core.proofs.Serving.{none_more, running, nothing_left}

-- ---- lists

pub grants_but : (test : handles.OpenGrant → Bool) (ss : List Handle) → grants_in (handles_but test ss) ≡ filter (λ e. not (test e)) (grants_in ss)
grants_but test [] = refl
grants_but test (handle ∷ ss) = elim (test handle.grant) as (λ b. grants_in (cond (not b) (handle ∷ handles_but test ss) (handles_but test ss)) ≡ cond (not b) (handle.grant ∷ filter (λ e. not (test e)) (grants_in ss)) (filter (λ e. not (test e)) (grants_in ss))) [
  | true ↦ grants_but test ss
  | false ↦ ap (λ rest. handle.grant ∷ rest) (grants_but test ss)
]

others_stay : (who : ℕ) (t : Tuid) (grants : List Grant) → of_others who (filter (λ x. not (is_grant who t x)) grants) ≡ of_others who grants
others_stay who t [] = refl
others_stay who t (x ∷ grants) = at (others_stay who t grants) (x.session == who) refl (is_grant who t x) refl
  where
    at : of_others who (filter (λ y. not (is_grant who t y)) grants) ≡ of_others who grants → (b : Bool) → (x.session == who) ≡ b → (m : Bool) → is_grant who t x ≡ m
        → of_others who (cond (not m) (x ∷ filter (λ y. not (is_grant who t y)) grants) (filter (λ y. not (is_grant who t y)) grants)) ≡ cond (not b) (x ∷ of_others who grants) (of_others who grants)
    at rest true is true mine = rest
    at rest true is false mine = rw is rest
    at rest false is true mine = (let no : false ≡ true = rw is at mine in cc)
    at rest false is false mine = rw is (ap (λ more. x ∷ more) rest)

same_tuid_itself : (t : Tuid) → same_tuid t t ≡ true
same_tuid_itself t = grind (arith, nat_tests)

-- another has another temporary identifier
apart : (own : Bool) (t x : Tuid) → not (same_tuid t x) ≡ true → (own && same_tuid x t) ≡ false
apart false t x other = refl
apart true t x other = swap t x ∙ not-true _ other
  where
    swap : (t x : Tuid) → same_tuid x t ≡ same_tuid t x
    swap t x = grind (arith, nat_tests)

others_kept : (gs : List handles.OpenGrant) (who : ℕ) (t : Tuid) → list_all (λ h. not (same_tuid t h.tuid)) gs ≡ true → tables.without_grant gs who t ≡ gs
others_kept [] who t all = refl
others_kept (h ∷ gs) who t all =
    let two = and_parts (not (same_tuid t h.tuid)) _ all in
    rw (apart (h.session == who) t h.tuid two.0) (ap (λ rest. h ∷ rest) (others_kept gs who t two.1))

pub apart_tuids : (gs : List handles.OpenGrant) → IsTrue (tables.is_grant_table gs) → tables.tuids_differ gs ≡ true
apart_tuids gs is = at (tables.none_collide gs) (tables.tuids_differ gs) (tables.few_each gs) is
  where
    at : (a b c : Bool) → IsTrue (a && b && c) → b ≡ true
    at true true c is = refl
    at true false c is = cc
    at false b c is = cc

-- the first of the session's grants goes
pub first_goes : (gs : List handles.OpenGrant) (who : ℕ) (x : handles.OpenGrant) → tables.tuids_differ gs ≡ true → tables.first_grant gs who ≡ Some x → objects_of gs who ≡ x.id ∷ objects_of (tables.without_grant gs who x.tuid) who
first_goes [] who x differ first = cc
first_goes (h ∷ gs) who x differ first = at (h.session == who) refl (λ is. first_goes gs who x (and_parts _ _ differ).1 is) first
  where
    at : (b : Bool) → (h.session == who) ≡ b → (tables.first_grant gs who ≡ Some x → objects_of gs who ≡ x.id ∷ objects_of (tables.without_grant gs who x.tuid) who) → cond b (Some h) (tables.first_grant gs who) ≡ Some x
        → map (λ (e : handles.OpenGrant). e.id) (cond b (h ∷ tables.grants_of gs who) (tables.grants_of gs who)) ≡ x.id ∷ objects_of (cond (not (b && same_tuid h.tuid x.tuid)) (h ∷ tables.without_grant gs who x.tuid) (tables.without_grant gs who x.tuid)) who
    at true own rest is =
        let same : h ≡ x = cc in
        let it : same_tuid h.tuid x.tuid ≡ true = ap (λ (e : handles.OpenGrant). same_tuid h.tuid e.tuid) (sym same) ∙ same_tuid_itself h.tuid in
        rw it (ap (λ (e : handles.OpenGrant). e.id ∷ objects_of gs who) same ∙ ap (λ others. x.id ∷ objects_of others who) (sym (ap (λ (e : handles.OpenGrant). tables.without_grant gs who e.tuid) (sym same) ∙ others_kept gs who h.tuid (and_parts _ _ differ).0)))
    at false other rest is = rw other (rest is)

-- ---- drafts

bare_of : (o : Option Drafting) → is_some o ≡ false → o ≡ None
bare_of None is = refl
bare_of (Some x) is = cc

none_at : (draw : ℕ) (ss : List Handle) → have_draft (is_at draw) ss ≡ false → drafting_at ss draw ≡ None
none_at draw [] none = refl
none_at draw (h ∷ ss) none = at (is_drawn draw h) parts.0 (none_at draw ss parts.1)
  where
    parts : ((is_at draw h.grant && is_some h.drafting) ≡ false) × (have_draft (is_at draw) ss ≡ false)
    parts = or_parts (is_at draw h.grant && is_some h.drafting) (have_draft (is_at draw) ss) none

    at : (b : Bool) → (b && is_some h.drafting) ≡ false → drafting_at ss draw ≡ None → option_and_then (λ (e : Handle). e.drafting) (cond b (Some h) (find (is_drawn draw) ss)) ≡ None
    at true bare rest = bare_of h.drafting bare
    at false bare rest = rest

-- the drafts that are left once a grant without one is gone
stood_but : (who : ℕ) (t : Tuid) (ss : List Handle) → have_draft (is_at t.draw) ss ≡ false → (draw : ℕ) (was : Drafting) → drafting_at (handles_but (tables.is_session_grant who t) ss) draw ≡ Some was → drafting_at ss draw ≡ Some was
stood_but who t [] none draw was is = is
stood_but who t (h ∷ ss) none draw was is = at (tables.is_session_grant who t h.grant) refl (is_drawn draw h) refl (stood_but who t ss bare draw was) is
  where
    bare : have_draft (is_at t.draw) ss ≡ false
    bare = (or_parts (is_at t.draw h.grant && is_some h.drafting) (have_draft (is_at t.draw) ss) none).1

    same_draw : tables.is_session_grant who t h.grant ≡ true → is_drawn draw h ≡ true → draw ≡ t.draw
    same_draw mine here = grind (arith, nat_tests)

    at : (m : Bool) → tables.is_session_grant who t h.grant ≡ m → (b : Bool) → is_drawn draw h ≡ b → (drafting_at (handles_but (tables.is_session_grant who t) ss) draw ≡ Some was → drafting_at ss draw ≡ Some was)
        → drafting_at (cond (not m) (h ∷ handles_but (tables.is_session_grant who t) ss) (handles_but (tables.is_session_grant who t) ss)) draw ≡ Some was → drafting_at (h ∷ ss) draw ≡ Some was
    at true mine true here rest is = let no : None ≡ Some was = sym (none_at t.draw ss bare) ∙ ap (drafting_at ss) (sym (same_draw mine here)) ∙ rest is in cc
    at true mine false other rest is = rw other (rest is)
    at false others true here rest is = rw here (rw here at is)
    at false others false other rest is = rw other (rest (rw other at is))

-- or once those of one draw have none
with_none : (draw : ℕ) (ss : List Handle) (other : ℕ) (was : Drafting) → drafting_at (with_drafting draw None ss) other ≡ Some was → drafting_at ss other ≡ Some was
with_none draw [] other was is = is
with_none draw (h ∷ ss) other was is = at (is_drawn draw h) (is_drawn other h) refl (with_none draw ss other was) is
  where
    at : (m b : Bool) → is_drawn other h ≡ b → (drafting_at (with_drafting draw None ss) other ≡ Some was → drafting_at ss other ≡ Some was)
        → drafting_at (cond m (record { grant = h.grant; drafting = None }) h ∷ with_drafting draw None ss) other ≡ Some was → drafting_at (h ∷ ss) other ≡ Some was
    at true true here rest is = let no : None ≡ Some was = rw here at is in cc
    at true false apart rest is = rw apart (rest (rw apart at is))
    at false true here rest is = rw here (rw here at is)
    at false false apart rest is = rw apart (rest (rw apart at is))

-- ---- the handle is gone

module _ {D : Type 0} (g : Ghosts D) (k : Kernel D) (who : ℕ) (t : Tuid) (id : Puid) (the : (s : State) → ServesIs g k s → (x : Grant) × (grant_of s who t ≡ Some x) × (x.id ≡ id))
    (first : objects_of (grants_in k.handles) who ≡ id ∷ objects_of (tables.without_grant (grants_in k.handles) who t) who)
    (y : Collections) (told : AreRescued k.collections.collector y.collector [] (id ∷ [])) (called : y.called ≡ k.collections.called) (finished : y.finished ≡ k.collections.finished) where
  step : (s : State) → ServesIs g k s → k.stop ≡ None → next k.words.seed s (events.Ask who (asks.Close t false) replies.Done) ≡ Some (closed s who t false)
  step s serves none = (let x = the s serves in outcome_legal k.words.seed s who (asks.Close t false) 0 (running g k s serves none) (close_goes 0 s who t false x.0 x.1) (λ made. let no : true ≡ false = sym made in cc))

  -- the collector is told of its end
  ends : (s : State) → ServesIs g k s → AreRescued k.collections.collector y.collector [] (ended_by s who (asks.Close t false) replies.Done)
  ends s serves =
      let x = the s serves in
      let these : ended_by s who (asks.Close t false) replies.Done ≡ id ∷ [] = rw x.1 (ap (λ (i : Puid). i ∷ []) x.2) in
      subst (AreRescued k.collections.collector y.collector []) (sym these) told

  handles_others : (ss : List Handle) → tables.without_session (grants_in (handles_but (tables.is_session_grant who t) ss)) who ≡ tables.without_session (grants_in ss) who
  handles_others ss = ap (λ gs. tables.without_session gs who) (grants_but (tables.is_session_grant who t) ss) ∙ without_session-without_grant (grants_in ss) who t

  -- it had no draft
  pub shed_bare : have_draft (is_at t.draw) k.handles ≡ false → Sheds g who k (record k { handles = handles_but (tables.is_session_grant who t) k.handles; collections = y })
  shed_bare none_drawn = record {
    words = refl;
    directory = refl;
    over = id ∷ [];
    dropped = first ∙ ap (λ gs. id ∷ objects_of gs who) (sym (grants_but (tables.is_session_grant who t) k.handles));
    stood = stood_but who t k.handles none_drawn;
    ended = told;
    called = called;
    finished = finished;
    others = handles_others k.handles;
    size = refl;
    faults = omega arith;
    later = omega arith;
    idle = λ stop is. (is, refl, refl);
    leaves = λ s serves none. nothing_left g k.disk (λ c. Holds c s.graph);
    serves = λ s serves none runs. record {
      grants = (closed s who t false).grants;
      serves = let x = the s serves in stores_closed g k s serves who t false x.0 x.1 none_drawn y
          (collection_asked (end_in g k) (end_in g k) k.words.seed s (closed s who t false) who (asks.Close t false) replies.Done (step s serves none) serves.state (none_more (end_in g k) (end_in g k) s.graph refl)
          k.collections.collector y.collector (ends s serves) serves.collecting);
      others = others_stay who t s.grants;
    };
    strays = λ s serves none runs. none_more (end_in g k) (end_in g k) s.graph refl;
    left = λ runs. inl refl;
    halts = λ stop none is. let no : None ≡ Some stop = sym none ∙ is in cc;
    sound = λ s serves none stop is. let no : None ≡ Some stop = sym none ∙ is in cc;
  }

  -- it had one, which was given up
  module _ (was : Drafting) (drafting : drafting_at k.handles t.draw ≡ Some was) (bare : was.created ≡ None) (new : Kernel D) where
    abbrev mid : Kernel D
    mid = record k { handles = handles_but (tables.is_session_grant who t) (with_drafting t.draw None k.handles); collections = y }

    module _ (gives : GivesUp g was mid new) where
      held : (s : State) → ServesIs g k s → IsHeld g k s who t was
      held s serves = let x = the s serves in held_by g k s serves who t was drafting (x.0, x.1)

      abbrev view : (s : State) → ServesIs g k s → DraftSeen g k.disk was
      view s serves = draft_seen g k s serves who t was (held s serves)

      gave : (s : State) (serves : ServesIs g k s) → k.stop ≡ None → GaveUp (view s serves) mid new
      gave s serves none = gives.ends (view s serves) refl none

      -- the core as it was once nothing was unfinished
      module _ (s : State) (serves : ServesIs g k s) (none : k.stop ≡ None) (runs : new.stop ≡ None) where
        given : IsGivenUp (view s serves) mid new
        given = (gave s serves none).given runs

        abbrev calm : Kernel D
        calm = record k { disk = given.mid; space = given.space }

        calm_serves : CoreServes g calm s
        calm_serves = serves_finished g k given.mid given.space s serves given.store given.none given.content

        abbrev calm_held : IsHeld g calm s who t was
        calm_held =
            let h = held s serves in
            record { at = h.at; x = h.x; found = h.found; handle = h.handle; place = h.place; drafting = h.drafting; before = h.before; draft_was = h.draft_was; object = h.object; there = h.there; there_x = h.there_x }

        done : new.space.left ≡ None
        done = gives.left none runs

        new_is : new ≡ record calm { disk = new.disk; space = new.space; handles = handles_but (tables.is_session_grant who t) k.handles; collections = y }
        new_is =
            gives.same ∙ ap (λ ss. record k { disk = new.disk; space = new.space; handles = ss; collections = y; stop = new.stop }) (let h = held s serves in but_with who t k.handles s.grants h.handle h.x h.place)
            ∙ ap (λ o. record k { disk = new.disk; space = new.space; handles = handles_but (tables.is_session_grant who t) k.handles; collections = y; stop = o }) (runs ∙ sym none)

        strays : AddsNoStray (end_in g k) (end_in g new) s.graph s.graph
        strays = subst (λ (i : Image). AddsNoStray i (end_in g new) s.graph s.graph) given.content (strays_aborted g calm s calm_serves who t was calm_held new.disk new.space bare done given.dropped)

        fewer : ServesFewer g new s who
        fewer = subst (λ (j : Kernel D). ServesFewer g j s who) (sym new_is) (record {
          grants = (closed s who t false).grants;
          serves = stores_aborted g calm s calm_serves who t was calm_held new.disk new.space bare done given.dropped y
              (collection_asked (g.content given.mid) (final_image g new.disk new.space) k.words.seed s (closed s who t false) who (asks.Close t false) replies.Done (step s serves none) serves.state
              (strays_aborted g calm s calm_serves who t was calm_held new.disk new.space bare done given.dropped)
              k.collections.collector y.collector (ends s serves) calm_serves.collecting);
          others = others_stay who t s.grants;
        })

      left_so : new.stop ≡ None → (o : Option Stop) → k.stop ≡ o → (new.space.left ≡ k.space.left) ⊎ (new.space.left ≡ None)
      left_so runs None none = inr (gives.left none runs)
      left_so runs (Some stop) is = inl (ap (λ (j : Kernel D). j.space.left) (gives.idle stop is))

      pub shed_drafted : Sheds g who k new
      shed_drafted = record {
        words = ap (λ (j : Kernel D). j.words) gives.same;
        directory = ap (λ (j : Kernel D). j.directory) gives.same;
        over = id ∷ [];
        dropped = first ∙ ap (λ gs. id ∷ objects_of gs who) (sym (ap (λ (j : Kernel D). grants_in j.handles) gives.same ∙ grants_but (tables.is_session_grant who t) (with_drafting t.draw None k.handles) ∙ ap (λ gs. tables.without_grant gs who t) (grants_with t.draw None k.handles)));
        stood = λ draw it has. with_none t.draw k.handles draw it (stood_but who t (with_drafting t.draw None k.handles) (none_taken t.draw k.handles) draw it (subst (λ (j : Kernel D). drafting_at j.handles draw ≡ Some it) gives.same has));
        ended = subst (λ (c : Collections). AreRescued k.collections.collector c.collector [] (id ∷ [])) (sym (ap (λ (j : Kernel D). j.collections) gives.same)) told;
        called = ap (λ (j : Kernel D). j.collections.called) gives.same ∙ called;
        finished = ap (λ (j : Kernel D). j.collections.finished) gives.same ∙ finished;
        others = ap (λ (j : Kernel D). tables.without_session (grants_in j.handles) who) gives.same ∙ handles_others (with_drafting t.draw None k.handles) ∙ ap (λ gs. tables.without_session gs who) (grants_with t.draw None k.handles);
        size = gives.size;
        faults = gives.faults;
        later = gives.later;
        idle = λ stop is. let same = gives.idle stop is in (ap (λ (j : Kernel D). j.stop) same ∙ is, ap (λ (j : Kernel D). j.disk) same, ap (λ (j : Kernel D). j.space) same);
        leaves = λ s serves none. (gave s serves none).leaves;
        serves = fewer;
        strays = strays;
        left = λ runs. left_so runs k.stop refl;
        halts = λ stop none is. record {
          failed = gives.failed stop none is;
          damaged = λ damage met. (let two = gives.damaged stop damage none is met in (record { draw = t.draw; was = was; stood = drafting; mid = record k { disk = two.0.mid }; later = two.0.calls.later; is = two.0.is; told = told_of_draft g (record k { disk = two.0.mid }) new None was.at (inl (t.draw, was, drafting, refl)) damage (gives.size ∙ sym two.0.calls.same.size) t.draw was drafting refl two.0.is }, two.1));
        };
        sound = λ s serves none. (gave s serves none).sound;
      }
