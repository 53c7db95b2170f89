-- How a call ends that makes an outcome of the definitions durable by one commit.
use Rattle.std.proofs.Common.{◌≡◌, ◌⊎◌, inl, inr, ℕ, ◌+◌, ◌≤◌, List, length, Bool, true, false, Option, Some, None, IsTrue, IsSome, sym, ◌∙◌, ap, subst, arith, sum}
use Rattle.cfs_core.proofs.Words.{After, Before, call, ChangesInPlace, closed_graph, creates, Cut, Early, Event, File, FitsDisk, Ghosts, Grant, Graph, graph_blocks, Holds, HoldsSome, Image, is_free_root, IsBetween, IsClosedGraph, IsLeastFree, IsPlainReply, IsSpeakable, IsState, Late, Leaves, MapEntry, next, next_keeps, of_owners, outcome_legal, outcome_of, Puid, refusal_of, Reply, Drafts, blocks_taken, Request, State, wider, with_object}
use Rattle.ufs_model.specs.declared.asked.Event.TheVariants as events
use Rattle.ufs_model.specs.declared.asked.Reply.TheVariants as replies
use Rattle.ufs_model.specs.declared.object.Object.TheVariants as objects
use Rattle.cfs_core.specs.Calls.{Answers, ByOutcome, CutShort, IsInDoubt, IsShortOfBlocks, MayBeRead, Undone, Whole, leaves_all}
use Rattle.cfs_core.specs.Claimed.{TakesForRequest}
use Rattle.cfs_core.specs.Kernel.{Kernel, grants_in}
use Rattle.cfs_core.specs.Commits.{commits}
use Rattle.cfs_core.specs.StandsFor.{AreDraftsOf, CoreServes, drafts_of_handles, end_in, free_to_come}
use Rattle.cfs_core.proofs.Answering.{owes, plain_unfull}
use Rattle.cfs_core.proofs.Stored.{holds_in}
use Rattle.cfs_core.proofs.Moved.{HasStepped, IsStepped, four_left, stores_stepped, strays_stepped}
use Rattle.cfs_core.proofs.Serving.{fits, may_fit, running}

-- The outcome of a request, with block b as a new object's root, is this state, with these objects. They take n blocks more,
-- and so many and four are Free.
pub record IsOutcome {D : Type 0} (old : Kernel D) (s : State) (who b : ℕ) (request : Request) (reply : Reply) (after : State) (h : Graph) (n : ℕ) : Type 0 where
  pub allowed : refusal_of s who request ≡ None
  pub names : creates request ≡ true → is_free_root s.graph b ≡ true
  pub speaks : IsSpeakable (events.Ask who request reply)
  pub out : outcome_of old.words.seed s who request b ≡ (reply, after)
  pub graph : after.graph ≡ h
  pub few : graph_blocks h ≤ graph_blocks s.graph + n
  pub free : n + 4 ≤ sum old.space.free

-- in the image a request that is done, or failed, has changed a part of a normal file, and the objects fit on the disk
pub record IsCut (size : ℕ) (s : State) (who : ℕ) (request : Request) (reply : Reply) (c : Image) : Type 0 where
  pub done : reply ≡ replies.Done
  pub id : Puid
  pub was : File
  pub now : File
  pub file : File
  pub changes : ChangesInPlace s who request id was now
  pub between : IsBetween was now file
  pub fits : FitsDisk size (with_object s.graph id (objects.File file))
  pub holds : Holds c (with_object s.graph id (objects.File file))

-- each image holds the objects of before or of after, or is cut short
abbrev pub LeavesThese : {D : Type 0} → Ghosts D → D → D → State → ℕ → Request → Reply → Graph → Type 0
LeavesThese g old new s who request reply h = Leaves g old new (λ c. (Holds c s.graph ⊎ Holds c h) ⊎ IsCut (g.blocks new) s who request reply c)

pub uncut : {D : Type 0} (g : Ghosts D) (old new : D) (s : State) (who : ℕ) (request : Request) (reply : Reply) (h : Graph) → Leaves g old new (λ c. Holds c s.graph ⊎ Holds c h) → LeavesThese g old new s who request reply h
uncut g old new s who request reply h leaves = wider g old new _ _ leaves (λ c holds. inl holds)

module _ {D : Type 0} (g : Ghosts D) (left_sized : (d : D) (t : ℕ) (c : Image) → g.left_since d t c → length c ≡ g.blocks d) (sized : (d : D) → IsTrue (g.honest d) → length (g.content d) ≡ g.blocks d)
    (old new : Kernel D) (size : g.blocks new.disk ≡ g.blocks old.disk) (none : old.stop ≡ None) (s after : State) (who b : ℕ) (request : Request) (reply : Reply) (serves : CoreServes g old s) (h : Graph) (n : ℕ)
    (is : IsOutcome old s who b request reply after h n) (leaves : LeavesThese g old.disk new.disk s who request reply h) where
  step : next old.words.seed s (events.Ask who request reply) ≡ Some after
  step = subst (λ (p : Reply × State). next old.words.seed s (events.Ask who request p.0) ≡ Some p.1) is.out (outcome_legal old.words.seed s who request b (running g old s serves none) is.allowed is.names)

  state : IsState after
  state = next_keeps old.words.seed s after (events.Ask who request reply) serves.state is.speaks step

  wide : length (g.content old.disk) ≡ g.blocks new.disk
  wide = sized old.disk serves.store.carries.tells.honest ∙ sym size

  fits_after : FitsDisk (g.blocks new.disk) h
  fits_after = may_fit g old s serves h n (g.blocks new.disk) (subst IsClosedGraph is.graph (closed_graph after.graph state.graph)) is.few is.free wide

  fits_before : FitsDisk (g.blocks new.disk) s.graph
  fits_before = fits g old s serves (g.blocks new.disk) wide

  -- whatever drafts there are
  pub doubtful : new.words.drawn ≡ old.words.drawn → new.directory ≡ old.directory → grants_in new.handles ≡ grants_in old.handles → IsInDoubt g old new s who request
  doubtful drawn named grants = record {
    allowed = is.allowed;
    drawn = drawn;
    named = named;
    grants = grants;
    leaves = wider g old.disk new.disk _ _ leaves (λ c holds. stood c holds);
  }
    where
      stood : (c : Image) → (Holds c s.graph ⊎ Holds c h) ⊎ IsCut (g.blocks new.disk) s who request reply c → HoldsSome (g.blocks new.disk) (MayBeRead old.words.seed s who request) c
      stood c (inl (inl before)) = record { graph = s.graph; may = Undone; fits = fits_before; holds = before }
      stood c (inl (inr after)) = record { graph = h; may = subst (MayBeRead old.words.seed s who request) (ap (λ (p : Reply × State). p.1.graph) is.out ∙ is.graph) (Whole b is.names); fits = fits_after; holds = after }
      stood c (inr cut) = record { graph = with_object s.graph cut.id (objects.File cut.file); may = CutShort cut.id cut.was cut.now cut.file cut.changes cut.between; fits = cut.fits; holds = cut.holds }

  pub in_doubt : new ≡ record old { disk = new.disk; space = new.space } → IsInDoubt g old new s who request
  in_doubt same = doubtful (ap (λ (k : Kernel D). k.words.drawn) same) (ap (λ (k : Kernel D). k.directory) same) (ap (λ (k : Kernel D). grants_in k.handles) same)

  module _ (stepped : IsStepped old new s after h) (T : Option MapEntry → Bool) (es : Drafts) (has : HasStepped g None old new s h T es) (drafts_are : drafts_of_handles new.handles after.grants ≡ es) (have : AreDraftsOf es new.handles after.grants) (four : 4 ≤ free_to_come g new) where
    pub did_with : IsPlainReply reply → leaves_all reply ≡ false → (¬ IsShortOfBlocks s who request (sum old.space.free)) → (creates request ≡ true → IsLeastFree (g.content old.disk) b) → TakesForRequest old.handles s who request reply (g.content old.disk) (end_in g new) → (commits s who request ≡ true → IsSome new.space.left) → Answers g None old new s who request reply
    did_with plain changes short least takes noted = record {
      event = record {
        after = after;
        step = step;
        stores = stores_stepped g old new s after h serves T es has stepped state drafts_are have four;
        strays = strays_stepped g old new s after h serves T es has stepped state drafts_are have four;
        survives = call g left_sized old.words.seed s e old.disk new.disk (record {
          crashes = wider g old.disk new.disk _ _ leaves (λ c holds. stood c holds);
          now = λ c left. record { graph = h; may = late; fits = fits_after; holds = holds_in g h es new.disk new.space new.space.left has.store c left };
        });
      };
      still = λ all. let no : true ≡ false = sym all ∙ changes in cc;
      full = λ full. let no : true ≡ false = sym full ∙ plain_unfull reply plain in cc;
      taken = λ done. takes;
      noted = λ done. noted;
      owed = owes old.words.seed s who request (g.content old.disk) (sum old.space.free) reply plain
          (ByOutcome is.allowed (record { block = b; least = least; reply_is = sym (ap (λ (p : Reply × State). p.0) is.out); room = short }));
    }
      where
        e : Event
        e = events.Ask who request reply

        late : Late old.words.seed s e h
        late = subst (Late old.words.seed s e) is.graph (After e after step)

        stood : (c : Image) → (Holds c s.graph ⊎ Holds c h) ⊎ IsCut (g.blocks new.disk) s who request reply c → HoldsSome (g.blocks new.disk) (λ x. Early old.words.seed s e x ⊎ Late old.words.seed s e x) c
        stood c (inl (inl was)) = record { graph = s.graph; may = inl (Before e); fits = fits_before; holds = was }
        stood c (inl (inr now)) = record { graph = h; may = inr late; fits = fits_after; holds = now }
        stood c (inr cut) = record {
          graph = with_object s.graph cut.id (objects.File cut.file);
          may = inl (Cut who request reply cut.id cut.was cut.now cut.file (inl cut.done) cut.changes cut.between);
          fits = cut.fits;
          holds = cut.holds;
        }

  module _ (stepped : IsStepped old new s after h) (handles : new.handles ≡ old.handles) (grants : after.grants ≡ s.grants) (rs : List ℕ) (has : HasStepped g None old new s h (λ entry. of_owners rs entry) (drafts_of_handles old.handles s.grants))
      (taken : blocks_taken h (drafts_of_handles old.handles s.grants) + graph_blocks s.graph ≡ blocks_taken s.graph (drafts_of_handles old.handles s.grants) + graph_blocks h) where
    abbrev drafts : Drafts
    drafts = drafts_of_handles old.handles s.grants

    abbrev T : Option MapEntry → Bool
    T entry = of_owners rs entry

    same_drafts : drafts_of_handles new.handles after.grants ≡ drafts
    same_drafts = ap (λ x. drafts_of_handles x after.grants) handles ∙ ap (λ (gs : List Grant). drafts_of_handles old.handles gs) grants

    have : AreDraftsOf drafts new.handles after.grants
    have = subst (λ x. AreDraftsOf drafts x after.grants) (sym handles) (subst (λ (gs : List Grant). AreDraftsOf drafts old.handles gs) (sym grants) serves.drafts)

    four : 4 ≤ free_to_come g new
    four = four_left g old new s after h serves T drafts has n (omega (arith, is.few, taken)) is.free

    pub did : IsPlainReply reply → leaves_all reply ≡ false → (¬ IsShortOfBlocks s who request (sum old.space.free)) → (creates request ≡ true → IsLeastFree (g.content old.disk) b) → TakesForRequest old.handles s who request reply (g.content old.disk) (end_in g new) → (commits s who request ≡ true → IsSome new.space.left) → Answers g None old new s who request reply
    did = did_with stepped T drafts has same_drafts have four
