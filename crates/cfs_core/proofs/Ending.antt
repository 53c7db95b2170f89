-- How a call ends that closes a grant with a draft, on any disk.
use Rattle.std.proofs.Common.{◌≡◌, inr, ℕ, List, length, Bool, Option, Some, None, Ok, Err, IsTrue, refl, sym, ◌∙◌, ap, subst, IsSome, true, is_some, OnErr, OnOk, Result, inl}
use Rattle.cfs_core.proofs.Words.{Drafting, Ghosts, Image, IsDraftTrouble, Kept, NoGrant, refused_by, Request, State, Trouble, Tuid, MakesAtMost}
use Rattle.cfs_base.specs.declared.refusal.Trouble.TheVariants as troubles
use Rattle.open_table.specs.Grants as tables
use Rattle.open_table.specs.declared.grant.OpenGrant as handles
use Rattle.ufs_model.specs.declared.asked.Reply.TheVariants as replies
use Rattle.ufs_model.specs.declared.asked.Request.TheVariants as asks
use Rattle.cfs_core.specs.Calls.{IsCause, TriesWith}
use Rattle.cfs_core.specs.Drafts.{EndsDraft}
use Rattle.cfs_core.specs.Kernel.{Kernel, Handle, grants_in}
use Rattle.cfs_core.specs.Handles.{drafting_at, handles_but, with_drafting}
use Rattle.cfs_core.specs.StandsFor.{CoreServes}
use Rattle.cfs_core.proofs.Ended.{ended_err, ended_ok}
use Rattle.cfs_core.proofs.Views.{IsHeld}
use Rattle.cfs_core.specs.Damage.{IsRootHere}
use Rattle.cfs_core.proofs.Damages.{told_of_draft}
use Rattle.cfs_core.proofs.Went.{went_so}
use Rattle.cfs_core.proofs.After.{absurd_keeps}
use Rattle.cfs_core.specs.Writes.{changes_disk}
use Rattle.special_files.specs.Committing.{draft_top}
use Rattle.special_files.specs.Limits.{commit_calls, commit_tries}

-- a device call failed, or a block is damaged
pub trouble_cause : {D : Type 0} (g : Ghosts D) (old new : Kernel D) (request : Option Request) (at : ℕ) → IsRootHere old request at → g.blocks new.disk ≡ g.blocks old.disk → (draw : ℕ) (was : Drafting) → drafting_at old.handles draw ≡ Some was → was.at ≡ at → (e : Trouble) → IsDraftTrouble g (draft_top was) old.disk new.disk new.space e → IsCause g old new request (refused_by e)
trouble_cause g old new request at here size draw was there same (troubles.Disk tried) is = is
trouble_cause g old new request at here size draw was there same (troubles.Damaged damage) is = told_of_draft g old new request at here damage size draw was there same is

-- the grant that is found is closed
pub closed_handles : (who : ℕ) (t : Tuid) (r : Result handles.OpenGrant NoGrant) (old new : List Handle) → IsSome (tables.session_grant (grants_in old) who t) → OnOk r (new ≡ handles_but (tables.is_session_grant who t) old) → OnErr r (tables.session_grant (grants_in old) who t ≡ None) → new ≡ handles_but (tables.is_session_grant who t) old
closed_handles who t (Ok x) old new some done none = done
closed_handles who t (Err e) old new some done none = let no = subst (λ (o : Option handles.OpenGrant). IsSome o) none some in cc

module _ {D : Type 0} (g : Ghosts D) (left_sized : (d : D) (t : ℕ) (c : Image) → g.left_since d t c → length c ≡ g.blocks d) (sized : (d : D) → IsTrue (g.honest d) → length (g.content d) ≡ g.blocks d)
    (k : Kernel D) (who : ℕ) (t : Tuid) (was : Drafting) (drafting : drafting_at k.handles t.draw ≡ Some was) (bare : was.created ≡ None) (the : (s : State) → CoreServes g k s → IsHeld g k s who t was)
    (d : D) (space : Kept) (commit : Bool) where
  -- one that has a draft changes the disk
  changes : changes_disk k (asks.Close t commit) ≡ true
  changes = ap is_some drafting

  wide : MakesAtMost g commit_calls commit_tries k.disk d → (s : State) → CoreServes g k s → length (g.content k.disk) ≡ g.blocks d
  wide calls s serves = sized k.disk serves.store.carries.tells.honest ∙ sym calls.same.size

  pub tries_ended : EndsDraft g commit was k.disk d k.space space (Ok tt) → TriesWith g None k (record k { disk = d; space = space; handles = handles_but (tables.is_session_grant who t) (with_drafting t.draw None k.handles) }) who (asks.Close t commit) (Ok replies.Done)
  tries_ended is = record {
    keeps = λ none. absurd_keeps changes none;
    ends = λ s serves none. ended_ok g k s serves who t was (the s serves) d space bare left_sized (wide is.calls s serves) none commit is;
    went = went_so g k d space (handles_but (tables.is_session_grant who t) (with_drafting t.draw None k.handles)) is.calls.same.size is.calls.faults is.calls.later (asks.Close t commit) (Ok replies.Done) tt tt;
  }

  pub tries_unended : (e : Trouble) → EndsDraft g commit was k.disk d k.space space (Err e) → TriesWith g None k (record k { disk = d; space = space; handles = with_drafting t.draw None k.handles }) who (asks.Close t commit) (Err (refused_by e))
  tries_unended e is = record {
    keeps = λ none. absurd_keeps changes none;
    ends = λ s serves none. ended_err g k s serves who t was (the s serves) d space bare left_sized (wide is.calls s serves) none commit e is;
    went = went_so g k d space (with_drafting t.draw None k.handles) is.calls.same.size is.calls.faults is.calls.later (asks.Close t commit) (Err (refused_by e)) tt
        (trouble_cause g k (record k { disk = d; space = space; handles = with_drafting t.draw None k.handles }) (Some (asks.Close t commit)) was.at (inr (inl (t.draw, was, drafting, refl))) is.calls.same.size t.draw was drafting refl e is.refused);
  }
