-- Lines that a core answered: a run of names, what a crash leaves of it, and what each Full names.
use Rattle.std.proofs.Common.{◌≡◌, ◌⊎◌, inl, inr, ℕ, ◌+◌, ◌-◌, ◌*◌, ◌≤◌, Bool, true, false, List, [], ◌∷◌, ◌++◌, length, Option, Some, None, refl, sym, ap, ◌∙◌, subst, arith}
use Rattle.cfs_base.proofs.Runs.{then, wider}
use Rattle.cfs_base.specs.Disk.{Image}
use Rattle.cfs_base.specs.Run.{Leaves}
use Rattle.cfs_base.specs.declared.disk.Disk.{Ghosts}
use Rattle.cfs_core.specs.Asked.{Asks, stopped_by}
use Rattle.cfs_core.specs.Calls.{Owes}
use Rattle.cfs_core.specs.Kernel.{Kernel}
use Rattle.cfs_core.specs.StandsFor.{StandsFor, end_in, free_to_come}
use Rattle.cfs_core.specs.declared.kernel.Stop.{Stop}
use Rattle.name_dirs.specs.Chain.{Chain, Start, Then}
use Rattle.name_dirs.specs.declared.fault.DirFault.TheVariants as refusals
use Rattle.name_lines.specs.declared.answer.Answer.{Answer}
use Rattle.name_lines.specs.declared.answer.Answer.TheVariants as answers
use Rattle.name_lines.specs.declared.line.Line.{Line}
use Rattle.cfs_base.specs.declared.refusal.Need.{Need}
use Rattle.name_lines.specs.Answers.{IsLineAnswer, IsFullOfLine, most_need}
use Rattle.name_lines.specs.Runs.{After as Next, Begun as First, FollowsLine, IsWithinLine, IsNamesRun}
use Rattle.name_lines.specs.Spoken.{line_in}
use Rattle.ufs_model.specs.declared.asked.Reply.{Reply}
use Rattle.ufs_model.specs.declared.asked.Reply.TheVariants as replies
use Rattle.ufs_model.specs.declared.asked.Request.{Request}
use Rattle.ufs_model.specs.Graph.{Graph}
use Rattle.ufs_model.specs.declared.collection.Collection.{Collection}
use Rattle.ufs_model.specs.declared.asked.Event.TheVariants as events
use Rattle.ufs_model.specs.Next.{is_sweeping, next}
use Rattle.ufs_model.specs.Room.{IsRoom, blocks_in}
use Rattle.ufs_model.specs.State.{State}
use Rattle.cfs_serve.proofs.Along.{Chained, ReadsLike, along_next, chained, reads_more}
use Rattle.cfs_serve.proofs.Logs.{some_same}
use Rattle.cfs_serve.specs.Along.{ReadsAlong}
use Rattle.cfs_serve.specs.Ending.{damage_in}
use Rattle.cfs_serve.specs.Lines.{After, Begun, ServesLines, session}
use Rattle.cfs_serve.specs.Named.{AreFullWith, IsFullWith}
use Rattle.cfs_serve.specs.Watched.{by_core}

-- ---- what each Full names

full_more : (free : ℕ) (told : List Answer) (answer : Answer) → AreFullWith free told → IsFullWith free answer → AreFullWith free (told ++ answer ∷ [])
full_more free [] answer all is = (is, tt)
full_more free (a ∷ told) answer all is = (all.0, full_more free told answer all.1 is)

module _ (cylinders free : ℕ) (t u : State) (calm : is_sweeping u.collection ≡ false) (fits : free + blocks_in u + 1 ≤ 63 * cylinders) where
  fits_so : (need : Need) (most : Option ℕ) → IsFullOfLine cylinders most u need → free ≤ need.free
  fits_so need None never = absurd never
  fits_so need (Some most) full = let bound = full.room calm (63 * cylinders - 1 - blocks_in u) (omega (arith, fits)) in omega (arith, bound, fits)

  -- a Full is the answer of a line that changes something
  full_line : (line : Option Line) (need : Need) → IsLineAnswer cylinders line (answers.Refused (refusals.Asked (replies.Full need))) t u → free ≤ need.free
  full_line None need is = absurd is
  full_line (Some line) need is = fits_so need (most_need line) is.1.1

  full_at : (answer : Answer) (line : Option Line) → IsLineAnswer cylinders line answer t u → IsFullWith free answer
  full_at (answers.Refused (refusals.Asked (replies.Full need))) line is = full_line line need is
  full_at answer line is = tt

module _ (cylinders : ℕ) (s : State) where
  pub sweeps_no_more : {lines : List (List ℕ)} {told : List Answer} {t : State} → IsNamesRun cylinders s lines told t → is_sweeping t.collection ≡ is_sweeping s.collection
  sweeps_no_more First = refl
  sweeps_no_more (Next run line answer follows) = follows.sweeps ∙ sweeps_no_more run

  full_then : (told : List Answer) (t u : State) (free : ℕ) (line : List ℕ) (answer : Answer) → FollowsLine cylinders (line_in line) answer t u → is_sweeping t.collection ≡ false → free + blocks_in u + 1 ≤ 63 * cylinders
      → (free + blocks_in t + 1 ≤ 63 * cylinders → AreFullWith free told) → AreFullWith free (told ++ answer ∷ [])
  full_then told t u free line answer follows calm fits before =
      let room = follows.room in
      full_more free told answer (before (omega (arith, fits, room))) (full_at cylinders free t u (follows.sweeps ∙ calm) fits answer (line_in line) follows.told)

  pub all_full : {lines : List (List ℕ)} {told : List Answer} {t : State} (free : ℕ) → IsNamesRun cylinders s lines told t → is_sweeping s.collection ≡ false → free + blocks_in t + 1 ≤ 63 * cylinders → AreFullWith free told
  all_full free First calm fits = tt
  all_full free (Next run line answer follows) calm fits = full_then _ _ _ free line answer follows (sweeps_no_more run ∙ calm) fits (λ room. all_full free run calm room)

-- ---- a core

follows_by : {n m : ℕ} {line : Option Line} {answer : Answer} {t u : State} → n ≡ m → FollowsLine n line answer t u → FollowsLine m line answer t u
follows_by same follows = rw⁻¹ same follows

-- ---- no damage

undamaged_by : (reply : Reply) → (seed : ℕ) (s : State) (request : Request) (image : Image) (free : ℕ) → Owes seed s session request image free reply → damage_in (stopped_by reply None) ≡ None
undamaged_by (replies.Disk (Some moment)) seed s request image free owed = refl
undamaged_by (replies.Damaged damage moment) seed s request image free owed = absurd owed
undamaged_by reply seed s request image free owed = refl

module _ {D : Type 0} (g : Ghosts D) where
  asked_undamaged : (a b : Kernel D) (request : Request) (reply : Reply) (t : State) → StandsFor g a t → Asks g a b session request reply → damage_in a.stop ≡ None → damage_in b.stop ≡ None
  asked_undamaged a b request reply t stands asks sound = at a.stop refl
    where
      at : (o : Option Stop) → a.stop ≡ o → damage_in b.stop ≡ None
      at None is = ap damage_in (asks.stops is) ∙ undamaged_by reply a.words.seed t request (end_in g a) (free_to_come g a) (asks.owed is t stands)
      at (Some stop) is = let same : b.stop ≡ a.stop = ap (λ (k : Kernel D). k.stop) (asks.stopped stop is).0 in ap damage_in same ∙ sound

  asked_stands : (b c : Kernel D) (t u : State) (request : Request) (reply : Reply) → StandsFor g b t → Asks g b c session request reply → next b.words.seed t (events.Ask session request reply) ≡ Some u → StandsFor g c u
  asked_stands b c t u request reply stands asks step =
      let came = asks.event t stands in
      subst (λ x. StandsFor g c x) (some_same _ _ (sym came.step ∙ step)) came.stands

  chain_stands : {P : Graph → Type 0} {a : Kernel D} {s : State} {b : Kernel D} {t : State} → Chain (by_core g) session P a s b t → StandsFor g a s → StandsFor g b t
  chain_stands (Start has) stands = stands
  chain_stands (Then way request reply asked step has) stands = asked_stands _ _ _ _ request reply (chain_stands way stands) asked step

  chain_undamaged : {P : Graph → Type 0} {a : Kernel D} {s : State} {b : Kernel D} {t : State} → Chain (by_core g) session P a s b t → StandsFor g a s → damage_in a.stop ≡ None → damage_in b.stop ≡ None
  chain_undamaged (Start has) stands sound = sound
  chain_undamaged (Then way request reply asked step has) stands sound = asked_undamaged _ _ request reply _ (chain_stands way stands) asked (chain_undamaged way stands sound)

module _ {D : Type 0} (g : Ghosts D) where
  pub names_run : {a : Kernel D} {s : State} {lines : List (List ℕ)} {told : List Answer} {b : Kernel D} {t : State} → ServesLines (by_core g) a s lines told b t → IsNamesRun (length a.space.free) s lines told t
  names_run Begun = First
  names_run (After run same line answer serves) = Next (names_run run) line answer (follows_by same serves.follows)

  pub stands_then : {a : Kernel D} {s : State} {lines : List (List ℕ)} {told : List Answer} {b : Kernel D} {t : State} → ServesLines (by_core g) a s lines told b t → StandsFor g a s → StandsFor g b t
  stands_then Begun stands = stands
  stands_then (After run same line answer serves) stands = serves.stands

  -- what a crash leaves of them, where none is in doubt
  abbrev pub LinesLeave : (a b : Kernel D) (s : State) (lines : List (List ℕ)) (told : List Answer) → Type 0
  LinesLeave a b s lines told = Leaves g a.disk b.disk (λ c. ReadsAlong c (length a.space.free) s lines told)

  one_leaves : (a b c : Kernel D) (s t u : State) (lines : List (List ℕ)) (told : List Answer) (line : List ℕ) (answer : Answer) → IsNamesRun (length a.space.free) s lines told t → LinesLeave a b s lines told
      → Chained g (IsWithinLine (line_in line) t.graph) b c u → LinesLeave a c s (lines ++ line ∷ []) (told ++ answer ∷ [])
  one_leaves a b c s t u lines told line answer run before step =
      let cylinders = length a.space.free in
      let along : (image : Image) → ReadsLike (IsWithinLine (line_in line) t.graph) image → ReadsAlong image cylinders s (lines ++ line ∷ []) (told ++ answer ∷ []) = λ image is. record {
        between = is.between;
        along = along_next cylinders s lines told line answer t is.between run is.has;
        graph = is.graph;
        same = is.same;
        rooted = is.rooted;
      } in
      then g a.disk b.disk c.disk (λ image. ReadsAlong image cylinders s (lines ++ line ∷ []) (told ++ answer ∷ [])) (λ image. ReadsAlong image cylinders s (lines ++ line ∷ []) (told ++ answer ∷ []))
      (wider g a.disk b.disk _ _ before (λ image. reads_more cylinders s lines told line answer image))
      (wider g b.disk c.disk _ _ step.leaves along) (λ image is. is)

  pub lines_leave : {a : Kernel D} {s : State} {lines : List (List ℕ)} {told : List Answer} {b : Kernel D} {t : State} → ServesLines (by_core g) a s lines told b t → StandsFor g a s → b.stop ≡ None → LinesLeave a b s lines told
  lines_leave {a} Begun stands runs = record { later = omega arith; since = λ t c below left. inl left; now = λ c left. inl left }
  lines_leave {a} (After run same line answer serves) stands runs =
      let step = chained g (IsWithinLine (line_in line) _) serves.chain (stands_then run stands) runs in
      one_leaves a _ _ _ _ _ _ _ line answer (names_run run) (lines_leave run stands step.runs) step

  pub lines_undamaged : {a : Kernel D} {s : State} {lines : List (List ℕ)} {told : List Answer} {b : Kernel D} {t : State} → ServesLines (by_core g) a s lines told b t → StandsFor g a s → damage_in a.stop ≡ None → damage_in b.stop ≡ None
  lines_undamaged Begun stands sound = sound
  lines_undamaged (After run same line answer serves) stands sound = chain_undamaged g serves.chain (stands_then run stands) (lines_undamaged run stands sound)
