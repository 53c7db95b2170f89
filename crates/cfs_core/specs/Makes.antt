-- A request that makes an object, and how it ends.
use Rattle.std.specs.Prelude.{◌≡◌, ◌≢◌, ◌⊎◌, ℕ, ◌+◌, ◌*◌, ◌<◌, ◌≤◌, true, false, List, ◌∷◌}
use Rattle.std.specs.Prelude.{Result, Ok, IfErr, IfOk, Some, None}
use Rattle.std.specs.BTreeMap.{insert_entry}
use Rattle.cfs_base.specs.declared.identifier.Puid.{Puid}
use Rattle.cfs_base.specs.declared.kind.FileKind.{FileKind}
use Rattle.cfs_base.specs.declared.kind.FileKind.TheVariants as file_kinds
use Rattle.cfs_base.specs.declared.kind.Kind.{Kind}
use Rattle.cfs_base.specs.declared.kind.Kind.TheVariants as kinds
use Rattle.cfs_base.specs.declared.refusal.Need.{Need}
use Rattle.cfs_base.specs.declared.refusal.Refused.{Refused}
use Rattle.cfs_base.specs.declared.refusal.Refused.TheVariants as refusals
use Rattle.puid_space.specs.Directory.{Listing, has_root_in}
use Rattle.ufs_model.specs.declared.asked.Event.TheVariants as events
use Rattle.ufs_model.specs.declared.asked.Reply.{Reply}
use Rattle.ufs_model.specs.declared.asked.Reply.TheVariants as replies
use Rattle.ufs_model.specs.declared.asked.Request.{Request}
use Rattle.ufs_model.specs.declared.change.Change.TheVariants.{Fill}
use Rattle.ufs_model.specs.declared.object.Object.{Object}
use Rattle.ufs_model.specs.Identifier.{puid_cmp}
use Rattle.ufs_model.specs.Limits.{reserve}
use Rattle.ufs_model.specs.Need.{change_need, need_of}
use Rattle.ufs_model.specs.Next.{is_direct_delete, next}
use Rattle.ufs_model.specs.Outcome.{created, creates, draws, outcome_of}
use Rattle.ufs_model.specs.Plain.{IsPlainReply}
use Rattle.ufs_model.specs.Refusal.{refusal_of, target}
use Rattle.ufs_model.specs.State.{State, is_running}
use Rattle.ufs_model.specs.WellFormed.{IsSpeakable}
use Rattle.cfs_base.specs.Codes.{not_owned}
use Rattle.cfs_core.specs.Damage.{bytes_wanted}
use Rattle.cfs_core.specs.Kernel.{Kernel, Handle}
use Rattle.cfs_core.specs.Claimed.{claims_for, claims_for_slot, commits_alone, is_beside, made_entry}
use Rattle.cfs_core.specs.Commits.{commits}

-- the kind of an object that is such a file
abbrev pub made_kind : FileKind → Kind
made_kind file_kinds.Normal = kinds.Normal
made_kind file_kinds.Special = kinds.Special

-- the request makes this object, and puts its identifier into a slot of the index to which it goes
pub record IsMaking (request : Request) (slot : ℕ) (o : Object) : Type 0 where
  pub outcome : (seed : ℕ) (s : State) (who b : ℕ)
      → outcome_of seed s who request b ≡ created seed s who (target request) slot o b
  pub makes : creates request ≡ true
  pub draw : draws request ≡ 1
  pub need : (s : State) (who : ℕ) → need_of s who request ≡ 1 + change_need s who (target request) (Fill slot None)
  pub delete : is_direct_delete request ≡ false
  pub claims : (handles : List Handle) (s : State) (who : ℕ) (reply : Reply) → claims_for handles s who request reply
      ≡ made_entry s who (target request) reply ∷ claims_for_slot handles s who (target request) slot
  pub alone : (s : State) (who : ℕ) → commits_alone s who request ≡ is_beside s who (target request)
  pub commits_is : (s : State) (who : ℕ) → commits s who request ≡ is_beside s who (target request)
  pub wants : bytes_wanted (Some request) ≡ 8 * slot + 8
  pub full : (seed : ℕ) (s : State) (who : ℕ) (n : Need) → is_running s ≡ true → refusal_of s who request ≡ None
      → n.need ≡ need_of s who request → n.free < n.need + reserve
      → next seed s (events.Ask who request (replies.Full n)) ≡ Some s
  pub speaks : (who : ℕ) (reply : Reply) → IsSpeakable (events.Ask who request reply)

-- it isn't given its name: its block is 0, no block of the disk, or the root of an object already
pub record IsAstray (directory : Listing) (id : Puid) (e : Refused) : Type 0 where
  pub is : e ≡ refusals.Damaged (record { block = id.block; code = not_owned })
  pub why : (id.block ≡ 0) ⊎ ((directory.room ≤ id.block) ⊎ (has_root_in directory.named id.block ≡ true))

-- An object that was made has its name, with the word that is drawn for it; or, on a disk that lies, no name.
pub record NamesMade {D : Type 0} (old new : Kernel D) (id : Puid) (kind : Kind)
    (result : Result Reply Refused) : Type 0 where
  pub named : id.block ≢ 0 → id.block < old.directory.room → has_root_in old.directory.named id.block ≡ false
      → (result ≡ Ok (replies.Id id)) × (new ≡ record old {
        directory = record { named = insert_entry puid_cmp old.directory.named id kind; room = old.directory.room };
        words = record { seed = old.words.seed; drawn = old.words.drawn + 1 };
      })
  pub plain : IfOk result IsPlainReply
  pub told : IfOk result (λ reply. reply ≡ replies.Id id)
  pub astray : IfErr result (IsAstray old.directory id)
  pub disk : new.disk ≡ old.disk
  pub stop : new.stop ≡ old.stop
  pub collections : new.collections ≡ old.collections
  pub seed : new.words.seed ≡ old.words.seed
  pub kept : old.words.drawn ≤ new.words.drawn
  pub drawn : new.words.drawn ≤ old.words.drawn + 1
