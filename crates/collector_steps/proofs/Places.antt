-- A step on a disk that serves a state is one of the definitions.
use Rattle.std.proofs.Common.{◌≡◌, ◌⊎◌, inl, inr, ℕ, ◌-◌, ◌<◌, ◌≤◌, List, length, Bool, Option, Some, None, arith}
use Rattle.std.proofs.Common.{refl, ap, ◌∙◌, subst}
use Rattle.std.proofs.lemmas.Bool.{le-ltb, lt-ltb}
use Rattle.collector_steps.proofs.Words.{AreBlocks, Ghosts, HasNoDeadEnd, IfSome, Image, Index, IsDamaged}
use Rattle.collector_steps.proofs.Words.{IsScanTrouble, IsTree, Kind, Puid, Root, Serves, State, Trouble, block_at}
use Rattle.collector_steps.proofs.Words.{object_at, root_spelling, same_Some, tree_in}
use Rattle.marking.specs.Leaves.{own_part}
use Rattle.marking.specs.Steps.{step_of}
use Rattle.collector_steps.specs.Scan.{HoldsAny, IsDraftRoot, IsFoundIn, after_drafted, after_own, ids_read}
use Rattle.collector_steps.specs.declared.scan.Found.{Found}
use Rattle.collector_steps.proofs.Indices.{alive, draft_step_is, holds_is, own_step_is, sound_index, tree_of_index}
use Rattle.ufs_model.specs.declared.object.Object.TheVariants as objects
use Rattle.vol_owners.specs.Account.{Drafts}

-- a place that is later than one, and not after another
pub on_weaker : (o : Option ℕ) (a b m n : ℕ) → b ≤ a → m ≤ n → IfSome o (λ next. (a < next) × (next ≤ m))
    → IfSome o (λ next. (b < next) × (next ≤ n))
on_weaker None a b m n less more is = tt
on_weaker (Some next) a b m n less more is = (omega (arith, is.0, less), omega (arith, is.1, more))

-- ---- a draft's root

module _ (image : Image) (s : State) (id : Puid) where
  pub no_draft : (draft : Option Root) (d : Option Index) → draft ≡ None → IsDraftRoot image s id draft d → d ≡ None
  no_draft None None h is = refl
  no_draft None (Some d) h is = absurd is
  no_draft (Some root) d h is = cc

  pub draft_tree : (root : Root) (d : Option Index) → IsDraftRoot image s id (Some root) d
      → (j : Index) × IsTree (length image) id.block (tree_in image (root_spelling root)) root (objects.Index j)
  draft_tree root None is = absurd is
  draft_tree root (Some d) is = (d, is.1)

-- ---- a step of an index of the state

module _ {D : Type 0} (g : Ghosts D) (old : D) (blocks : AreBlocks (g.content old)) (directory : List (Puid × Kind))
    (s : State) (ds : Drafts) (serves : Serves g old directory s ds) (id : Puid) (i : Index)
    (at : object_at s.graph id ≡ Some (objects.Index i)) where
  abbrev image : Image
  image = g.content old

  abbrev content : List ℕ
  content = block_at image id.block

  tree : (root : Root) × IsTree (length image) id.block (tree_in image content) root (objects.Index i)
  tree = tree_of_index image s.graph serves.carries.holds id i at (serves.accounts.objects id (objects.Index i) at).no_bit

  pub own_alive : HasNoDeadEnd image content
  own_alive = alive image blocks id.block content tree.0 i tree.1

  pub draft_alive : (root : Root) (d : Option Index) → IsDraftRoot image s id (Some root) d
      → HasNoDeadEnd image (root_spelling root)
  draft_alive root d is =
      let its = draft_tree image s id root d is in
      alive image blocks id.block (root_spelling root) root its.0 its.1

  -- neither it nor its draft is damaged
  pub own_sound : length image ≡ g.blocks old → (new : D) (t : Trouble) → IsScanTrouble g old new None id.block t
      → ¬ IsDamaged t
  own_sound sized new t is =
      sound_index g old new id.block tree.0 i None t serves.carries.tells blocks sized tree.1 (λ root none. cc) is

  pub draft_sound : length image ≡ g.blocks old → (root : Root) (d : Option Index)
      → IsDraftRoot image s id (Some root) d → (new : D) (t : Trouble)
      → IsScanTrouble g old new (Some root) id.block t → ¬ IsDamaged t
  draft_sound sized root d has new t is =
      let its = draft_tree image s id root d has in
      let each : (r : Root) → Some root ≡ Some r
      → (j : Index) × IsTree (length image) id.block (tree_in image (root_spelling r)) r (objects.Index j) = λ r same. (
        its.0,
        subst (λ (q : Root). IsTree (length image) id.block (tree_in image (root_spelling q)) q
            (objects.Index its.0)) (same_Some root r same) its.1,
      ) in
      sound_index g old new id.block tree.0 i (Some root) t serves.carries.tells blocks sized tree.1 each is

  module _ (cursor : ℕ) (bytes : List ℕ) (found : Found) where
    abbrev IsStepOf : Option Index → Type 0
    IsStepOf d = (ids_read found.step bytes, found.next) ≡ step_of d i cursor

    -- in its own tree, where it has no draft or the draft was read
    pub own_is : (d : Option Index) → (d ≡ None) ⊎ (own_part ≤ cursor)
        → IsFoundIn image content (cursor - own_part) bytes after_own found → IsStepOf d
    own_is d which is =
        ap (λ next. (ids_read found.step bytes, next)) is.next
        ∙ own_step_is image blocks id.block content tree.0 i tree.1 (cursor - own_part) bytes found.step is.step
        is.content
        ∙ same d which
      where
        same : (d : Option Index) → (d ≡ None) ⊎ (own_part ≤ cursor) → step_of None i cursor ≡ step_of d i cursor
        same None which = refl
        same (Some draft) (inl none) = cc
        same (Some draft) (inr past) = rw (le-ltb cursor own_part past) refl

    -- in its draft's
    pub drafted_is : (root : Root) (d : Option Index) → IsDraftRoot image s id (Some root) d → cursor < own_part
        → (any : Bool) × HoldsAny image content any
        × IsFoundIn image (root_spelling root) cursor bytes (after_drafted any) found → IsStepOf d
    drafted_is root None has less is = absurd has
    drafted_is root (Some draft) has less (any, holds, is) =
        ap (λ next. (ids_read found.step bytes, next)) is.next
        ∙ draft_step_is image blocks id.block (root_spelling root) root draft has.1 cursor bytes i any
        (holds_is image blocks id.block content tree.0 i tree.1 any holds) found.step is.step
        is.content
        ∙ rw (lt-ltb cursor own_part less) refl
