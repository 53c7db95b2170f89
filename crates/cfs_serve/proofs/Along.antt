-- Graphs along a run of names, and what a crash leaves of its requests.
use Rattle.std.proofs.Common.{◌≡◌, ◌⊎◌, inl, inr, ℕ, ◌≤◌, Bool, true, false, List, [], ◌∷◌, ◌++◌, Option, Some, None, refl, sym, ap, ◌∙◌, subst, arith, append_assoc}
use Rattle.std.proofs.lemmas.List.{append-nil}
use Rattle.cfs_base.proofs.Runs.{then, wider}
use Rattle.cfs_base.specs.Disk.{Image}
use Rattle.cfs_base.specs.Run.{Leaves, left_now}
use Rattle.cfs_base.specs.declared.disk.Disk.{Ghosts}
use Rattle.cfs_core.specs.Asked.{Asks, stopped_by}
use Rattle.cfs_core.specs.Kernel.{Kernel}
use Rattle.cfs_core.specs.StandsFor.{StandsFor}
use Rattle.cfs_core.specs.declared.kernel.Stop.{Stop}
use Rattle.name_dirs.specs.Chain.{Chain, Start, Then}
use Rattle.name_dirs.specs.Names.{HasNames, Nothing}
use Rattle.name_lines.specs.declared.answer.Answer.{Answer}
use Rattle.name_lines.specs.declared.line.Line.{Line}
use Rattle.name_lines.specs.declared.line.Line.TheVariants as lines
use Rattle.name_lines.specs.Runs.{After as Next, Begun as First, IsWithinLine, IsNamesRun, ServesFrom}
use Rattle.name_lines.specs.Spoken.{line_in}
use Rattle.survival.specs.Call.{After, Before, CallSurvives, Cut, CutInDoubt, Early, InDoubt, IsIdle, Late, ReadsIn, Survived}
use Rattle.ufs_model.specs.declared.asked.Event.{Event}
use Rattle.ufs_model.specs.declared.asked.Event.TheVariants as events
use Rattle.ufs_model.specs.declared.asked.Reply.{Reply}
use Rattle.ufs_model.specs.declared.asked.Reply.TheVariants as replies
use Rattle.ufs_model.specs.declared.asked.Request.{Request}
use Rattle.ufs_model.specs.Graph.{Graph}
use Rattle.ufs_model.specs.Next.{next}
use Rattle.ufs_model.specs.State.{State}
use Rattle.cfs_serve.proofs.Directories.{rooted_stay, same_entries}
use Rattle.cfs_serve.proofs.Logs.{some_same}
use Rattle.cfs_serve.specs.Along.{IsAlong, IsUnderWay, ReadsAlong, ReadsRooted, HasEntriesOf}
use Rattle.cfs_serve.specs.Lines.{ServesLines, session}
use Rattle.cfs_serve.specs.Watched.{by_core}
use Rattle.vol_image.specs.Sound.{IsSoundAs, rooted_part}

-- ---- along a run

-- names are as they are
names_itself : (g : Graph) → HasNames Nothing g g
names_itself g = record { names = λ d w text. refl; stay = λ d is. is }

amid_itself : (line : Option Line) (g : Graph) → IsWithinLine line g g
amid_itself None g = refl
amid_itself (Some (lines.Look place)) g = refl
amid_itself (Some (lines.ListDir path)) g = refl
amid_itself (Some (lines.MakeTop capacity)) g = λ apart. inl (names_itself g)
amid_itself (Some (lines.MakeDir place capacity)) g = λ apart. inl (names_itself g)
amid_itself (Some (lines.Bind place id)) g = λ apart. inl (names_itself g)
amid_itself (Some (lines.Unbind place)) g = λ apart. inl (names_itself g)

-- a line more is to come
under_way_more : (left : List (List ℕ)) (line : List ℕ) (g h : Graph) → IsUnderWay left g h → IsUnderWay (left ++ line ∷ []) g h
under_way_more [] line g h is = subst (IsWithinLine (line_in line) g) (sym is) (amid_itself (line_in line) g)
under_way_more (l ∷ left) line g h is = is

module _ (cylinders : ℕ) (s : State) (all : List (List ℕ)) (told : List Answer) (line : List ℕ) (answer : Answer) where
  pub along_more : (h : Graph) → IsAlong cylinders s all told h → IsAlong cylinders s (all ++ line ∷ []) (told ++ answer ∷ []) h
  along_more h is = record {
    done = is.done;
    left = is.left ++ line ∷ [];
    answers = is.answers;
    later = is.later ++ answer ∷ [];
    state = is.state;
    lines_are = ap (λ l. l ++ line ∷ []) is.lines_are ∙ append_assoc is.done is.left (line ∷ []);
    told_are = ap (λ l. l ++ answer ∷ []) is.told_are ∙ append_assoc is.answers is.later (answer ∷ []);
    run = is.run;
    next = under_way_more is.left line is.state.graph h is.next;
  }

  -- the next line is under way
  pub along_next : (t : State) (h : Graph) → IsNamesRun cylinders s all told t → IsWithinLine (line_in line) t.graph h → IsAlong cylinders s (all ++ line ∷ []) (told ++ answer ∷ []) h
  along_next t h run is = record {
    done = all;
    left = line ∷ [];
    answers = told;
    later = answer ∷ [];
    state = t;
    lines_are = refl;
    told_are = refl;
    run = run;
    next = is;
  }

  pub reads_more : (c : Image) → ReadsAlong c cylinders s all told → ReadsAlong c cylinders s (all ++ line ∷ []) (told ++ answer ∷ [])
  reads_more c is = record { between = is.between; along = along_more is.between is.along; graph = is.graph; same = is.same; rooted = is.rooted }

-- as the run begins, and once all is answered
begun_under_way : (lines : List (List ℕ)) (g : Graph) → IsUnderWay lines g g
begun_under_way [] g = refl
begun_under_way (line ∷ lines) g = amid_itself (line_in line) g

pub along_begun : (cylinders : ℕ) (s : State) (all : List (List ℕ)) (told : List Answer) → IsAlong cylinders s all told s.graph
along_begun cylinders s all told = record {
  done = [];
  left = all;
  answers = [];
  later = told;
  state = s;
  lines_are = refl;
  told_are = refl;
  run = First;
  next = begun_under_way all s.graph;
}

pub along_end : (cylinders : ℕ) (s t : State) (all : List (List ℕ)) (told : List Answer) → IsNamesRun cylinders s all told t → IsAlong cylinders s all told t.graph
along_end cylinders s t all told run = record {
  done = all;
  left = [];
  answers = told;
  later = [];
  state = t;
  lines_are = sym (append-nil all);
  told_are = sym (append-nil told);
  run = run;
  next = refl;
}

-- ---- what a crash leaves of requests

-- an image reads as a graph with the entries of one that has P
pub record ReadsLike (P : Graph → Type 0) (image : Image) : Type 0 where
  pub between : Graph
  pub has : P between
  pub graph : Graph
  pub same : HasEntriesOf between graph
  pub rooted : ReadsRooted image graph

pub reads_rooted : (c : Image) (g : Graph) → IsSoundAs c (rooted_part g) → ReadsRooted c g
reads_rooted c g sound = record { reads = sound; stay = rooted_stay g sound.graph }

itself : (P : Graph → Type 0) (c : Image) (g : Graph) → P g → IsSoundAs c (rooted_part g) → ReadsLike P c
itself P c g has sound = record { between = g; has = has; graph = g; same = λ d. refl; rooted = reads_rooted c g sound }

module _ {D : Type 0} (g : Ghosts D) (P : Graph → Type 0) where
  -- nothing more is left where no call was made
  none_more : (d : D) (Q : Image → Type 0) → Leaves g d d Q
  none_more d Q = record { later = omega arith; since = λ t c below left. inl left; now = λ c left. inl left }

  -- ---- one request

  module _ (a b : Kernel D) (request : Request) (reply : Reply) (s t : State) (asks : Asks g a b session request reply) (step : next a.words.seed s (events.Ask session request reply) ≡ Some t)
      (runs : a.stop ≡ None) (goes_on : b.stop ≡ None) (at : P s.graph) (then_at : P t.graph) where
    abbrev asked : Event
    asked = events.Ask session request reply

    -- it isn't in doubt
    sure : (who : ℕ) (other : Request) (moment : ℕ) → events.Ask who other (replies.Disk (Some moment)) ≡ asked → ⊥
    sure who other moment is =
        let told : reply ≡ replies.Disk (Some moment) = cc is in
        cc (sym goes_on ∙ asks.stops runs ∙ ap (λ r. stopped_by r None) told)

    early : (c : Image) (e : Event) (h : Graph) → Early a.words.seed s e h → IsSoundAs c (rooted_part h) → ReadsLike P c
    early c e h (Before f) sound = itself P c s.graph at sound
    early c e h (Cut who other told id old new f done place between) sound = record {
      between = s.graph;
      has = at;
      graph = h;
      same = same_entries s.graph id old f place.there place.normal between.kind;
      rooted = reads_rooted c h sound;
    }

    late : (c : Image) (e : Event) (h : Graph) → e ≡ asked → Late a.words.seed s e h → IsSoundAs c (rooted_part h) → ReadsLike P c
    late c e h is (After f u so) sound =
        let same : next a.words.seed s e ≡ next a.words.seed s asked = ap (next a.words.seed s) is in
        itself P c u.graph (subst (λ (x : State). P x.graph) (some_same _ _ (sym step ∙ sym same ∙ so)) then_at) sound
    late c e h is (InDoubt who b moment other allowed may) sound = absurd (sure who other moment is)
    late c e h is (CutInDoubt who moment other id old new f place between) sound = absurd (sure who other moment is)

    reads : (c : Image) → ReadsIn c (Early a.words.seed s asked) ⊎ ReadsIn c (Late a.words.seed s asked) → ReadsLike P c
    reads c (inl r) = early c asked r.graph r.may r.reads
    reads c (inr r) = late c asked r.graph refl r.may r.reads

    leaves_by : Survived g a.words.seed s asked a.disk b.disk → Leaves g a.disk b.disk (ReadsLike P)
    leaves_by (inl survives) = wider g a.disk b.disk _ (ReadsLike P) survives.crashes reads
    leaves_by (inr idle) = subst (λ d. Leaves g a.disk d (ReadsLike P)) (sym idle.disk) (none_more a.disk (ReadsLike P))

    pub asked_leaves : StandsFor g a s → Leaves g a.disk b.disk (ReadsLike P)
    asked_leaves stands = leaves_by (asks.event s stands).survives

  -- ---- one after the other

  -- one that runs ran before
  pub ran : {a b : Kernel D} {request : Request} {reply : Reply} → Asks g a b session request reply → b.stop ≡ None → a.stop ≡ None
  ran {a} {b} {request} {reply} asks goes_on = at a.stop refl
    where
      at : (o : Option Stop) → a.stop ≡ o → a.stop ≡ None
      at None is = is
      at (Some stop) is =
          let same : b.stop ≡ a.stop = ap (λ (k : Kernel D). k.stop) (asks.stopped stop is).0 in
          sym same ∙ goes_on

  pub record Chained (a b : Kernel D) (t : State) : Type 0 where
    pub runs : a.stop ≡ None
    pub stands : StandsFor g b t
    pub has : P t.graph
    pub leaves : Leaves g a.disk b.disk (ReadsLike P)

  step_on : {a b c : Kernel D} {t u : State} {request : Request} {reply : Reply} → Chained a b t → b.stop ≡ None → c.stop ≡ None → Asks g b c session request reply
      → next b.words.seed t (events.Ask session request reply) ≡ Some u → P u.graph → Chained a c u
  step_on {a} {b} {c} {t} {u} {request} {reply} before runs goes_on asks step has =
      let came = asks.event t before.stands in
      record {
        runs = before.runs;
        stands = subst (λ x. StandsFor g c x) (some_same _ _ (sym came.step ∙ step)) came.stands;
        has = has;
        leaves = then g a.disk b.disk c.disk (ReadsLike P) (ReadsLike P) before.leaves (asked_leaves b c request reply t u asks step runs goes_on before.has has before.stands) (λ c is. is);
      }

  pub chained : {a : Kernel D} {s : State} {b : Kernel D} {t : State} → Chain (by_core g) session P a s b t → StandsFor g a s → b.stop ≡ None → Chained a b t
  chained {a} (Start has) stands goes_on = record { runs = goes_on; stands = stands; has = has; leaves = none_more a.disk (ReadsLike P) }
  chained (Then way request reply asked step has) stands goes_on =
      let runs = ran asked goes_on in
      step_on (chained way stands runs) runs goes_on asked step has
