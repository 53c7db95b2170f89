-- From the objects that the images of a call hold to what survives it.
use Rattle.std.proofs.Common.{◌≡◌, ◌⊎◌, inl, inr, ⊎_elim, ℕ, ◌+◌, ◌≤◌, ◌/◌, ◌*◌, List, [], ◌∷◌, length, filter, Bool, true, false, Some, None, refl, sym, ◌∙◌, ap, subst, arith, cond}
use Rattle.std.specs.List.{sum_by}
use Rattle.std.proofs.lemmas.List.Sums.{sum_by-cons}
use Rattle.cfs_base.specs.Disk.{Image}
use Rattle.cfs_base.specs.Run.{Leaves, left_now}
use Rattle.cfs_base.specs.declared.disk.Disk.{Ghosts}
use Rattle.cfs_base.specs.declared.identifier.Puid.{Puid}
use Rattle.ufs_model.specs.declared.asked.Event.{Event}
use Rattle.ufs_model.specs.declared.asked.Event.TheVariants as events
use Rattle.ufs_model.specs.declared.asked.Reply.TheVariants as replies
use Rattle.ufs_model.specs.declared.asked.Request.{Request}
use Rattle.ufs_model.specs.declared.object.Object.{Object}
use Rattle.ufs_model.specs.Graph.{Graph}
use Rattle.ufs_model.specs.Identifier.{is_among}
use Rattle.ufs_model.specs.Next.{next}
use Rattle.ufs_model.specs.Object.{blocks_of}
use Rattle.ufs_model.specs.Outcome.{outcome_of}
use Rattle.ufs_model.specs.Reach.{rooted}
use Rattle.ufs_model.specs.Refusal.{refusal_of}
use Rattle.ufs_model.specs.State.{State, is_running, stopped_at}
use Rattle.vol_image.specs.Sound.{Holds, graph_blocks, rooted_part}
use Rattle.vol_image.specs.Survives.{MayName}
use Rattle.vol_image.proofs.Rooted.{rooted_reads}
use Rattle.survival.specs.Call.{Early, Before, Late, After, InDoubt, ReadsIn, CallSurvives, CallKeeps}
use Rattle.survival.specs.Held.{FitsDisk, HoldsSome, LeavesSome}

-- a part of a list sums to no more
sum_filter : (f : Puid × Object → ℕ) (P : Puid × Object → Bool) (es : List (Puid × Object)) → sum_by f (filter P es) ≤ sum_by f es
sum_filter f P [] = omega arith
sum_filter f P (e ∷ es) = elim (P e) as (λ b. sum_by f (cond b (e ∷ filter P es) (filter P es)) ≤ sum_by f (e ∷ es)) [
  | true ↦ omega (arith, sum_by-cons f e (filter P es), sum_by-cons f e es, sum_filter f P es)
  | false ↦ omega (arith, sum_by-cons f e es, sum_filter f P es)
]

-- what is held and fits is sound, as far as it is reached from the root
reads_some : (size : ℕ) (P : Graph → Type 0) (c : Image) → length c ≡ size → HoldsSome size P c → ReadsIn c P
reads_some size P c is some =
    let g = some.graph in
    let part : graph_blocks (rooted_part g) ≤ graph_blocks g = sum_filter (λ e. blocks_of e.1) (λ e. is_among e.0 (rooted g)) g.objects in
    let wide : length c / 64 ≡ size / 64 = ap (λ (n : ℕ). n / 64) is in
    record { graph = g; may = some.may; reads = rooted_reads c g some.holds some.fits.closed (omega (arith, part, wide, some.fits.room)) }

module _ {D : Type 0} (G : Ghosts D) (sized : (d : D) (t : ℕ) (c : Image) → G.left_since d t c → length c ≡ G.blocks d) where
  -- what is so of all that is left, with its size
  with_size : (old new : D) (P Q : Image → Type 0) → ((c : Image) → length c ≡ G.blocks new → P c → Q c) → Leaves G old new P → Leaves G old new Q
  with_size old new P Q has leaves = record {
    later = leaves.later;
    since = λ t c le left. ⊎_elim inl (λ p. inr (has c (sized new t c left) p)) (leaves.since t c le left);
    now = λ c left. ⊎_elim inl (λ p. inr (has c (sized new (G.moment new) c left) p)) (leaves.now c left);
  }

  pub call : (seed : ℕ) (s : State) (e : Event) (old new : D) → LeavesSome G seed s e old new → CallSurvives G seed s e old new
  call seed s e old new leaves = record {
    crashes = with_size old new _ _ (λ c is some. ⊎_elim
        (λ early. inl (reads_some (G.blocks new) (Early seed s e) c is (record { graph = some.graph; may = early; fits = some.fits; holds = some.holds })))
        (λ late. inr (reads_some (G.blocks new) (Late seed s e) c is (record { graph = some.graph; may = late; fits = some.fits; holds = some.holds })))
        some.may) leaves.crashes;
    now = λ c left. reads_some (G.blocks new) (Late seed s e) c (sized new (G.moment new) c left) (leaves.now c left);
  }

  module _ (seed : ℕ) (s : State) (old new : D) (before : FitsDisk (G.blocks new) s.graph) where
    -- each image holds the objects of before
    pub keeps : Leaves G old new (λ c. Holds c s.graph) → CallKeeps G s old new
    keeps leaves = record {
      crashes = with_size old new _ _ (λ c is holds. reads_some (G.blocks new) (λ h. h ≡ s.graph) c is (record { graph = s.graph; may = refl; fits = before; holds = holds })) leaves;
    }

    early : (e : Event) (c : Image) → Holds c s.graph → HoldsSome (G.blocks new) (λ h. Early seed s e h ⊎ Late seed s e h) c
    early e c holds = record { graph = s.graph; may = inl (Before e); fits = before; holds = holds }

    -- a call is done: each image holds the objects of before or of after, and of after now
    pub done : (e : Event) (t : State) → next seed s e ≡ Some t → FitsDisk (G.blocks new) t.graph → Leaves G old new (λ c. Holds c s.graph ⊎ Holds c t.graph)
        → ((c : Image) → left_now G new c → Holds c t.graph) → CallSurvives G seed s e old new
    done e t step after leaves now = call seed s e old new (record {
      crashes = with_size old new _ _ (λ c is holds. ⊎_elim (early e c)
          (λ new_holds. record { graph = t.graph; may = inr (After e t step); fits = after; holds = new_holds }) holds) leaves;
      now = λ c left. record { graph = t.graph; may = After e t step; fits = after; holds = now c left };
    })

    -- an event that leaves the objects, while each image holds them
    pub loose : (e : Event) (t : State) → next seed s e ≡ Some t → t.graph ≡ s.graph → Leaves G old new (λ c. Holds c s.graph)
        → ((c : Image) → left_now G old c → Holds c s.graph) → CallSurvives G seed s e old new
    loose e t step same leaves pending = done e t step (subst (FitsDisk (G.blocks new)) (sym same) before)
        (with_size old new _ _ (λ c is holds. inl holds) leaves)
        (λ c left. subst (Holds c) (sym same) (⊎_elim (pending c) (λ holds. holds) (leaves.now c left)))

    -- a call that failed after its first write, and may have been done
    pub doubt : (who b moment : ℕ) (request : Request) → is_running s ≡ true → refusal_of s who request ≡ None → MayName s request b
        → FitsDisk (G.blocks new) (outcome_of seed s who request b).1.graph
        → Leaves G old new (λ c. Holds c s.graph ⊎ Holds c (outcome_of seed s who request b).1.graph)
        → ((c : Image) → left_now G old c → Holds c s.graph)
        → CallSurvives G seed s (events.Ask who request (replies.Disk (Some moment))) old new
    doubt who b moment request running none names after leaves pending = call seed s e old new (record {
      crashes = with_size old new _ _ (λ c is holds. ⊎_elim (early e c) (λ is_new. wider c (late c (inr is_new))) holds) leaves;
      now = λ c left. ⊎_elim (λ was. late c (inl (pending c was))) (late c) (leaves.now c left);
    })
      where
        e : Event
        e = events.Ask who request (replies.Disk (Some moment))

        after_doubt : Graph
        after_doubt = (outcome_of seed s who request b).1.graph

        late : (c : Image) → Holds c s.graph ⊎ Holds c after_doubt → HoldsSome (G.blocks new) (Late seed s e) c
        late c (inl holds) = record { graph = s.graph; may = After e (stopped_at moment s) (rw running refl); fits = before; holds = holds }
        late c (inr holds) = record { graph = after_doubt; may = InDoubt who b moment request none names; fits = after; holds = holds }

        wider : (c : Image) → HoldsSome (G.blocks new) (Late seed s e) c → HoldsSome (G.blocks new) (λ h. Early seed s e h ⊎ Late seed s e h) c
        wider c some = record { graph = some.graph; may = inr some.may; fits = some.fits; holds = some.holds }
