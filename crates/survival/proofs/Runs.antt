-- From what a crash leaves of one call to what it leaves of a whole run.
use Rattle.std.proofs.Common.{◌≡◌, ◌⊎◌, inl, inr, ⊎_elim, ℕ, zero, suc, ◌+◌, ◌<◌, ◌≤◌, List, [], ◌∷◌, ◌++◌, length, take, get_or, slice_get, Some, refl, sym, ◌∙◌, ap, subst, arith, length-append}
use Rattle.std.proofs.Math.ListN.{get_or-append}
use Rattle.std.proofs.Math.Seq.{get_or-append_seam}
use Rattle.std.proofs.lemmas.Bool.{cases_lt}
use Rattle.std.proofs.lemmas.List.{take_all, take-append-le}
use Rattle.std.proofs.lemmas.Option.{same_Some, slice_get_within}
use Rattle.std.specs.Prelude.{option_and_then}
use Rattle.cfs_base.specs.Disk.{Image}
use Rattle.cfs_base.specs.Run.{left_now}
use Rattle.cfs_base.specs.declared.disk.Disk.{Ghosts}
use Rattle.ufs_model.specs.declared.asked.Event.{Event}
use Rattle.ufs_model.specs.Graph.{Graph}
use Rattle.ufs_model.specs.State.{State}
use Rattle.ufs_model.specs.Next.{next}
use Rattle.ufs_model.specs.Run.{replay, replay_from}
use Rattle.ufs_model.proofs.Legal.{replay_from-push}
use Rattle.vol_image.specs.Sound.{IsSoundAs, rooted_part}
use Rattle.vol_image.specs.Survives.{Survives, MayRead, Whole, CutShort, Done, CutInDoubt}
use Rattle.survival.specs.Call.{Early, Before, Cut, Late, After, InDoubt, ReadsIn, CallSurvives, CallKeeps, IsIdle}
use Rattle.survival.specs.Call as calls
use Rattle.survival.specs.Trail.{SurvivesFrom, RunSurvives}

-- ---- lists with one more

get_front : {X : Type 0} (xs ys : List X) (k : ℕ) → k < length xs → slice_get (xs ++ ys) k ≡ slice_get xs k
get_front [] ys k lt = absurd (omega arith)
get_front (x ∷ xs) ys zero lt = refl
get_front (x ∷ xs) ys (suc k) lt = get_front xs ys k (omega arith)

get_last : {X : Type 0} (xs : List X) (x : X) → slice_get (xs ++ x ∷ []) (length xs) ≡ Some x
get_last [] x = refl
get_last (y ∷ xs) x = get_last xs x

-- ---- one event more

module _ (seed : ℕ) (g : Graph) (trail : List Event) (e : Event) where
  longer : length (trail ++ e ∷ []) ≡ length trail + 1
  longer = omega (arith, length-append trail (e ∷ []))

  front : (m : ℕ) → m ≤ length trail → take m (trail ++ e ∷ []) ≡ take m trail
  front m le = take-append-le m trail (e ∷ []) le

  whole : take (length trail) trail ≡ trail
  whole = take_all (length trail) trail (omega arith)

  all : take (length trail + 1) (trail ++ e ∷ []) ≡ trail ++ e ∷ []
  all = take_all (length trail + 1) (trail ++ e ∷ []) (omega (arith, longer))

  replay_more : (r s t : State) → replay_from seed r trail ≡ Some s → next seed s e ≡ Some t → replay_from seed r (trail ++ e ∷ []) ≡ Some t
  replay_more r s t at one = replay_from-push seed r trail e ∙ ap (option_and_then (λ u. next seed u e)) at ∙ one

  -- what survives some events survives them of a longer trail
  pub survives_more : (c : Image) (m : ℕ) → m ≤ length trail → Survives c seed g trail m → Survives c seed g (trail ++ e ∷ []) m
  survives_more c m le old = record { graph = old.graph; may = at old.graph old.may; reads = old.reads }
    where
      at : (h : Graph) → MayRead seed g trail m h → MayRead seed g (trail ++ e ∷ []) m h
      at h (Whole s r) = Whole s (ap (replay seed g) (front m le) ∙ r)
      at h (CutShort s who request reply id old new f r asked done changes between) =
          CutShort s who request reply id old new f (ap (replay seed g) (front m le) ∙ r) (get_front trail (e ∷ []) m (slice_get_within trail m _ asked) ∙ asked) done changes between
      at h (Done s k who b moment request lt r asked none names) =
          Done s k who b moment request lt (ap (replay seed g) (front k (omega arith)) ∙ r) (get_front trail (e ∷ []) k (omega arith) ∙ asked) none names
      at h (CutInDoubt s k who moment request id old new f lt r asked changes between) =
          CutInDoubt s k who moment request id old new f lt (ap (replay seed g) (front k (omega arith)) ∙ r) (get_front trail (e ∷ []) k (omega arith) ∙ asked) changes between

  module _ (s : State) (now : replay seed g trail ≡ Some s) where
    before : replay seed g (take (length trail) (trail ++ e ∷ [])) ≡ Some s
    before = ap (replay seed g) (front (length trail) (omega arith) ∙ whole) ∙ now

    after : (t : State) → next seed s e ≡ Some t → replay seed g (take (length trail + 1) (trail ++ e ∷ [])) ≡ Some t
    after t one = ap (replay seed g) all ∙ replay_more _ s t now one

    pub survives_early : (c : Image) → ReadsIn c (Early seed s e) → Survives c seed g (trail ++ e ∷ []) (length trail)
    survives_early c reads = record { graph = reads.graph; may = at e refl reads.graph reads.may; reads = reads.reads }
      where
        at : (f : Event) → e ≡ f → (h : Graph) → Early seed s f h → MayRead seed g (trail ++ e ∷ []) (length trail) h
        at _ is _ (Before f) = Whole s before
        at _ is _ (Cut who request reply id old new file done changes between) =
            CutShort s who request reply id old new file before (get_last trail e ∙ ap Some is) done changes between

    pub survives_late : (c : Image) → ReadsIn c (Late seed s e) → Survives c seed g (trail ++ e ∷ []) (length trail + 1)
    survives_late c reads = record { graph = reads.graph; may = at e refl reads.graph reads.may; reads = reads.reads }
      where
        at : (f : Event) → e ≡ f → (h : Graph) → Late seed s f h → MayRead seed g (trail ++ e ∷ []) (length trail + 1) h
        at _ is _ (After f t one) = Whole t (after t (ap (next seed s) is ∙ one))
        at _ is _ (InDoubt who b moment request none names) = Done s (length trail) who b moment request (omega arith) before (get_last trail e ∙ ap Some is) none names
        at _ is _ (calls.CutInDoubt who moment request id old new file changes between) =
            CutInDoubt s (length trail) who moment request id old new file (omega arith) before (get_last trail e ∙ ap Some is) changes between

    -- an event that leaves the graph, beside what reads as all of the trail
    pub survives_idle : (c : Image) (t : State) → next seed s e ≡ Some t → t.graph ≡ s.graph → Survives c seed g trail (length trail) → Survives c seed g (trail ++ e ∷ []) (length trail + 1)
    survives_idle c t one same old = record { graph = old.graph; may = at old.graph old.may; reads = old.reads }
      where
        at : (h : Graph) → MayRead seed g trail (length trail) h → MayRead seed g (trail ++ e ∷ []) (length trail + 1) h
        at h (Whole r is) =
            let here : r ≡ s = same_Some r s (sym is ∙ ap (replay seed g) whole ∙ now) in
            subst (λ (k : Graph). MayRead seed g (trail ++ e ∷ []) (length trail + 1) k) (same ∙ ap (λ (u : State). u.graph) (sym here)) (Whole t (after t one))
        at h (CutShort r who request reply id old new f is asked done changes between) = absurd (omega (arith, slice_get_within trail (length trail) _ asked))
        at h (Done r k who b moment request lt is asked none names) =
            Done r k who b moment request (omega arith) (ap (replay seed g) (front k (omega arith)) ∙ is) (get_front trail (e ∷ []) k (omega arith) ∙ asked) none names
        at h (CutInDoubt r k who moment request id old new f lt is asked changes between) =
            CutInDoubt r k who moment request id old new f (omega arith) (ap (replay seed g) (front k (omega arith)) ∙ is) (get_front trail (e ∷ []) k (omega arith) ∙ asked) changes between

-- ---- a run

module _ {D : Type 0} (G : Ghosts D) (seed : ℕ) (g : Graph) where
  pub run_begins : (d : D) → ((c : Image) → left_now G d c → IsSoundAs c (rooted_part g)) → RunSurvives G seed g [] (G.moment d ∷ []) d
  run_begins d reads = record {
    count = refl;
    past = λ k lt. omega (arith, ap (λ (i : ℕ). get_or (G.moment d ∷ []) i 0) (first k lt));
    rising = λ k lt. absurd (alone k lt);
    each = λ k le c left. let is = first k (omega (arith, le)) in record {
      events = 0;
      more = omega (arith, is);
      most = omega arith;
      survives = opened c (subst (λ (i : ℕ). G.left_since d (get_or (G.moment d ∷ []) i 0) c) is left);
    };
    now = opened;
  }
    where
      first : (k : ℕ) → k < 1 → k ≡ 0
      first k lt = omega (arith, lt)

      alone : (k : ℕ) → k + 1 < 1 → ⊥
      alone k lt = absurd (omega (arith, lt))

      opened : (c : Image) → left_now G d c → Survives c seed g [] 0
      opened c left = record { graph = g; may = Whole _ refl; reads = reads c left }

  module _ (trail : List Event) (marks : List ℕ) (s : State) (old new : D) (at : replay seed g trail ≡ Some s) (run : RunSurvives G seed g trail marks old) where
    -- A run goes on by one event where all that was left since, and is left now, survives so much.
    goes_on : (e : Event) → G.moment old ≤ G.moment new
        → ((t : ℕ) (c : Image) → t ≤ G.moment old → G.left_since new t c → G.left_since old t c ⊎ SurvivesFrom c seed g (trail ++ e ∷ []) (length trail))
        → ((c : Image) → left_now G new c → Survives c seed g (trail ++ e ∷ []) (length trail + 1))
        → RunSurvives G seed g (trail ++ e ∷ []) (marks ++ G.moment new ∷ []) new
    goes_on e later since now = record {
      count = omega (arith, length-append marks (G.moment new ∷ []), more, run.count);
      past = λ k lt. elim (cases_lt k (length marks)) [
        | inl less ↦ let was = run.past k less in omega (arith, get_or-append marks (G.moment new ∷ []) 0 k less)
        | inr last ↦ omega (arith, mark k (omega (arith, last, length-append marks (G.moment new ∷ []))))
      ];
      rising = λ k lt. elim (cases_lt (k + 1) (length marks)) [
        | inl less ↦
            let was = run.rising k less in
            omega (arith, was, get_or-append marks (G.moment new ∷ []) 0 k (omega (arith, less)), get_or-append marks (G.moment new ∷ []) 0 (k + 1) less)
        | inr last ↦
            let here : k + 1 ≡ length marks = omega (arith, last, lt, length-append marks (G.moment new ∷ [])) in
            let was = run.past k (omega (arith, here)) in
            omega (arith, was, later, get_or-append marks (G.moment new ∷ []) 0 k (omega (arith, here)), mark (k + 1) here)
      ];
      each = λ k le c left. elim (cases_lt k (length marks)) [
        | inl less ↦ earlier k less c (subst (λ (t : ℕ). G.left_since new t c) (get_or-append marks (G.moment new ∷ []) 0 k less) left)
        | inr last ↦ let is : k ≡ length marks = omega (arith, last, more, run.count) in
            record { events = length trail + 1; more = omega (arith, le, more); most = omega (arith, more); survives = now c (subst (λ (t : ℕ). G.left_since new t c) (mark k is) left) }
      ];
      now = λ c left. subst (λ (n : ℕ). Survives c seed g (trail ++ e ∷ []) n) (sym more) (now c left);
    }
      where
        more : length (trail ++ e ∷ []) ≡ length trail + 1
        more = longer seed g trail e

        mark : (k : ℕ) → k ≡ length marks → get_or (marks ++ G.moment new ∷ []) k 0 ≡ G.moment new
        mark k is = ap (λ (i : ℕ). get_or (marks ++ G.moment new ∷ []) i 0) is ∙ get_or-append_seam marks (G.moment new) [] 0

        earlier : (k : ℕ) → k < length marks → (c : Image) → G.left_since new (get_or marks k 0) c → SurvivesFrom c seed g (trail ++ e ∷ []) k
        earlier k less c left = ⊎_elim
            (λ was. let old = run.each k (omega (arith, run.count)) c was in
            record { events = old.events; more = old.more; most = omega (arith, more, old.most); survives = survives_more seed g trail e c old.events old.most old.survives })
            (λ (from : SurvivesFrom c seed g (trail ++ e ∷ []) (length trail)). record { events = from.events; more = omega (arith, from.more, run.count); most = from.most; survives = from.survives })
            (since (get_or marks k 0) c (run.past k less) left)

    pub run_goes_on : (e : Event) → CallSurvives G seed s e old new → RunSurvives G seed g (trail ++ e ∷ []) (marks ++ G.moment new ∷ []) new
    run_goes_on e call = goes_on e call.crashes.later
        (λ t c le left. ⊎_elim inl (λ reads. inr (⊎_elim (early c) (late c) reads)) (call.crashes.since t c le left))
        (λ c left. survives_late seed g trail e s at c (call.now c left))
      where
        early : (c : Image) → ReadsIn c (Early seed s e) → SurvivesFrom c seed g (trail ++ e ∷ []) (length trail)
        early c reads = record { events = length trail; more = omega arith; most = omega (arith, longer seed g trail e); survives = survives_early seed g trail e s at c reads }

        late : (c : Image) → ReadsIn c (Late seed s e) → SurvivesFrom c seed g (trail ++ e ∷ []) (length trail)
        late c reads = record { events = length trail + 1; more = omega arith; most = omega (arith, longer seed g trail e); survives = survives_late seed g trail e s at c reads }

    pub run_idles : (e : Event) → IsIdle seed s e old new → RunSurvives G seed g (trail ++ e ∷ []) (marks ++ G.moment new ∷ []) new
    run_idles e idle = goes_on e (omega (arith, ap G.moment idle.disk))
        (λ t c le left. inl (subst (λ (d : D). G.left_since d t c) idle.disk left))
        (λ c left. survives_idle seed g trail e s at c idle.after idle.step idle.graph (run.now c (subst (λ (d : D). left_now G d c) idle.disk left)))

    -- and by a call with no event
    pub run_stays : CallKeeps G s old new → RunSurvives G seed g trail marks new
    run_stays call = record {
      count = run.count;
      past = λ k lt. let was = run.past k lt in omega (arith, call.crashes.later);
      rising = run.rising;
      each = λ k le c left. ⊎_elim (run.each k le c) (λ reads. record { events = length trail; more = le; most = omega arith; survives = as_now c reads })
          (call.crashes.since (get_or marks k 0) c (run.past k (omega (arith, run.count))) left);
      now = λ c left. ⊎_elim (run.now c) (as_now c) (call.crashes.now c left);
    }
      where
        as_now : (c : Image) → ReadsIn c (λ h. h ≡ s.graph) → Survives c seed g trail (length trail)
        as_now c reads = record {
          graph = reads.graph;
          may = subst (λ (h : Graph). MayRead seed g trail (length trail) h) (sym reads.may) (Whole s (ap (replay seed g) (take_all (length trail) trail (omega arith)) ∙ at));
          reads = reads.reads;
        }
