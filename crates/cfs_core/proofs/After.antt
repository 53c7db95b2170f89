-- A call that reads, and then goes on.
use Rattle.std.proofs.Common.{◌≡◌, ℕ, ◌<◌, length, Bool, true, false, Option, None, Result, Ok, Err, refl, sym, ◌∙◌, ap, subst, ◌+◌, arith}
use Rattle.cfs_core.proofs.Words.{Ghosts, Image, Index, Leaves, OnlyReads, Puid, refusal_of, Refused, Reply, Request, State, then, wider, reads_then}
use Rattle.cfs_base.specs.declared.refusal.Refused.TheVariants as refusals
use Rattle.cyl_alloc.specs.Left.{LeftCommit}
use Rattle.intentions.specs.Left.{coming}
use Rattle.ufs_model.specs.declared.asked.Reply.TheVariants as replies
use Rattle.ufs_model.specs.declared.object.Object.TheVariants as objects
use Rattle.cfs_core.specs.Drafts.{TriesWhere}
use Rattle.cfs_core.specs.StandsFor.{drafts_of_handles, ServesWith, end_in, free_with}
use Rattle.cfs_core.specs.Calls.{AddsNoStray, Answers, EndsSo, IsAsItWas, Owes, TriesWith, TriesOnWith}
use Rattle.cfs_core.specs.Claimed.{TakesForRequest}
use Rattle.cfs_core.specs.Kernel.{Kernel}
use Rattle.cfs_core.specs.Looks.{ReachesAll}
use Rattle.cfs_core.specs.Ways.{Reaches}
use Rattle.cfs_core.specs.Writes.{changes_disk}
use Rattle.cfs_core.proofs.Serving.{free_same, serves_is, serves_on}
use Rattle.cfs_core.proofs.Went.{went_then}

-- a request that changes the disk may do so
pub absurd_keeps : {A : Type 0} {b : Bool} → b ≡ true → b ≡ false → A
absurd_keeps changes none = let no : true ≡ false = sym changes ∙ none in cc

module _ {D : Type 0} (g : Ghosts D) (n : ℕ) (old : Kernel D) (d : D) (new : Kernel D) (reads : OnlyReads g n old.disk d) (request : Request) where
  abbrev mid : Kernel D
  mid = record old { disk = d }

  first : (P : Image → Type 0) → Leaves g d new.disk P → Leaves g old.disk new.disk P
  first P leaves = then g old.disk d new.disk P P (wider g old.disk d _ P reads.images (λ c no. absurd no)) leaves (λ c p. p)

  still_then : IsAsItWas g mid new → IsAsItWas g old new
  still_then was = record { same = was.same; most = n + was.most; reads = reads_then g old.disk d new.disk n was.most (n + was.most) reads was.reads (omega arith) }

  module _ (w : Option LeftCommit) (s : State) (who : ℕ) where
    answers : (reply : Reply) → Answers g w mid new s who request reply → Answers g w old new s who request reply
    answers reply is = record {
      event = record {
        after = is.event.after;
        step = is.event.step;
        stores = is.event.stores;
        strays = subst (λ (i : Image). AddsNoStray (coming i w) (end_in g new) s.graph is.event.after.graph) reads.content is.event.strays;
        survives = record { crashes = first _ is.event.survives.crashes; now = is.event.survives.now };
      };
      still = λ all. still_then (is.still all);
      full = λ full. let was = is.full full in record {
        same = was.same;
        none = was.none;
        content = was.content ∙ ap (λ (i : Image). coming i w) reads.content;
        still = λ nothing. still_then (was.still nothing);
      };
      owed = subst (λ (i : Image). Owes old.words.seed s who request (coming i w) (free_with g old w) reply) reads.content
          (subst (λ (f : ℕ). Owes old.words.seed s who request (coming (g.content d) w) f reply) (free_same g old d w reads.content) is.owed);
      taken = λ done. subst (λ (i : Image). TakesForRequest old.handles s who request reply (coming i w) (end_in g new)) reads.content (is.taken done);
      noted = is.noted;
    }

    pub ends : (r : Result Reply Refused) → EndsSo g w mid new s who request r → EndsSo g w old new s who request r
    ends (Ok reply) is = answers reply is
    ends (Err (refusals.Full need)) is = answers (replies.Full need) is
    ends (Err (refusals.Disk false)) is = answers (replies.Disk None) is
    ends (Err (refusals.Disk true)) is = record { allowed = is.allowed; drawn = is.drawn; named = is.named; grants = is.grants; leaves = first _ is.leaves }
    ends (Err (refusals.Damaged damage)) is = is
    ends (Err refusals.Memory) is = answers replies.Memory is

  pub tries_then : {w : Option LeftCommit} (index : Puid) (slot : ℕ) (who : ℕ) (result : Result Reply Refused) → changes_disk old request ≡ true → ReachesAll g objects.Index old who request index → TriesOnWith g w mid new index slot request result
      → ((s : State) (i : Index) → ServesWith g old s w → Reaches s who request index (objects.Index i) → (drafts_of_handles old.handles s.grants) index ≡ None → (slot < length i.slots) × (refusal_of s who request ≡ None)) → TriesWith g w old new who request result
  tries_then {w} index slot who result changes reaches tries goes = record {
    keeps = λ none. absurd_keeps changes none;
    ends = λ s serves none.
        let i = reaches.0 s (serves_is g old s serves) in
        let may = goes s i.0 serves i.1 i.2 in
        ends w s who result (tries.ends s who i.0 (serves_on g n old mid reads refl s serves) none i.1 i.2 may.0 may.1);
    went = went_then g n old d new reads request result (tries.went reaches.1);
  }

  pub where_then : {w : Option LeftCommit} (who : ℕ) (may : State → Type 0) (result : Result Reply Refused) → changes_disk old request ≡ true → TriesWhere g w mid new who request may result → ((s : State) → ServesWith g old s w → may s) → TriesWith g w old new who request result
  where_then {w} who may result changes tries so = record {
    keeps = λ none. absurd_keeps changes none;
    ends = λ s serves none. ends w s who result (tries.ends s (serves_on g n old mid reads refl s serves) none (so s serves));
    went = went_then g n old d new reads request result tries.went;
  }

-- where it always may
pub tries_where : {D : Type 0} {g : Ghosts D} {w : Option LeftCommit} {old new : Kernel D} {who : ℕ} {request : Request} {may : State → Type 0} {result : Result Reply Refused} → changes_disk old request ≡ true → TriesWhere g w old new who request may result → ((s : State) → ServesWith g old s w → may s) → TriesWith g w old new who request result
tries_where changes tries so = record { keeps = λ none. absurd_keeps changes none; ends = λ s serves none. tries.ends s serves none (so s serves); went = tries.went }
