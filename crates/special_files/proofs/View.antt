-- A draft that the store has, before and after reads.
use Rattle.std.proofs.Common.{Ok, Err, false, ap, ◌≡◌, ℕ, Some, ◌≢◌, length, sym, ◌∙◌, Option, subst}
use Rattle.intentions.proofs.Drafts.{draft_there}
use Rattle.intentions.proofs.Shown.{store_tells}
use Rattle.special_files.proofs.Words.{Draft, DraftSeen, DraftView, Drafting, Drafts, File, FileKind, Ghosts, GoesTo, Graph, HasDraft, HasTree, Held, Image, IsErrAnd, IsOpen, IsTree, Kept, Leaves, Nothing, Object, OnlyReads, Puid, Refused, Result, StoreHas, Trouble, file_to_leaves, has_met_damage, is_damage, kind_of, object_at, object_with, opened_as, refused_by, root_spelling, tells_on, tree_in, wider}
use Rattle.special_files.proofs.Begun.{store_reads}
use Rattle.cfs_base.specs.declared.kind.Kind.TheVariants as kinds
use Rattle.cfs_base.specs.declared.kind.FileKind.TheVariants as file_kinds
use Rattle.ufs_model.specs.declared.object.Object.TheVariants as objects
use Rattle.block_tree.specs.declared.root.Root as roots
use Rattle.special_files.proofs.PutStore.{the_draft}
use Rattle.special_files.proofs.Refusals.{damaged_by}

abbrev pub view : {D : Type 0} {g : Ghosts D} {graph : Graph} {ds : Drafts} {id : Puid} {o : Object} {d : Draft} {disk : D} {space : Kept} {was : Drafting} → StoreHas g graph ds disk space → object_at graph id ≡ Some o → IsOpen ds id was d → DraftView g disk space was
view {graph} {ds} {id} {o} {d} store at opened = record { graph = graph; ds = ds; id = id; object = o; draft = d; store = store; at = at; opened = opened }

module _ {D : Type 0} {g : Ghosts D} {d0 : D} {space : Kept} {was : Drafting} (v : DraftView g d0 space was) where
  pub draft_of : HasDraft (g.content d0) v.id (opened_as was v.draft)
  draft_of = the_draft (g.content d0) v.ds v.id was v.draft v.opened (v.store.account.drafts v.id v.object v.at)

  abbrev pub view_reads : {d1 : D} {n : ℕ} → OnlyReads g n d0 d1 → DraftView g d1 space was
  view_reads {d1} {n} reads = record { graph = v.graph; ds = v.ds; id = v.id; object = v.object; draft = v.draft; store = store_reads g v.graph v.ds d0 d1 space n v.store reads; at = v.at; opened = v.opened }

-- ---- its tree

pub view_tree : {D : Type 0} {g : Ghosts D} {disk : D} {space : Kept} {was : Drafting} → DraftView g disk space was → HasTree g disk was
view_tree v = record { tells = v.store.carries.tells; owner = v.id.block; object = v.draft.object; tree = (draft_of v).tree }

-- also while a commit is unfinished, which is of another object
abbrev pub seen_tree : {D : Type 0} {g : Ghosts D} {disk : D} {was : Drafting} → DraftSeen g disk was → HasTree g disk was
seen_tree {g = g} {disk} {was} v = record {
  tells = store_tells g v.graph v.ds disk v.space v.store;
  owner = v.id.block;
  object = v.draft.object;
  tree = (draft_there g v.graph v.ds disk v.space v.store v.id v.object (opened_as was v.draft) v.at v.opened.alone).tree;
}

abbrev pub tree_reads : {D : Type 0} {g : Ghosts D} {was : Drafting} {d0 d1 : D} {n : ℕ} → HasTree g d0 was → OnlyReads g n d0 d1 → HasTree g d1 was
tree_reads {g} {was} {d0} {d1} {n} t reads = record {
  tells = tells_on g d0 d1 d1 n reads t.tells;
  owner = t.owner;
  object = t.object;
  tree = subst (λ (i : Image). IsTree (length i) t.owner (tree_in i (root_spelling was.root)) was.root t.object) (sym reads.content) t.tree;
}

-- ---- roots

-- a file's root is none of an index
pub no_index : (root : roots.Root) (leaves : ℕ → Option Held) (f : File) → object_with root leaves ≡ objects.File f → root.kind ≢ kinds.Index
no_index root leaves f gives is = by f.kind ((file_to_leaves root leaves f gives).kind)
  where
    by : (k : FileKind) → root.kind ≡ kind_of k → ⊥
    by file_kinds.Normal same = (let no : kinds.Normal ≡ kinds.Index = sym same ∙ is in cc)
    by file_kinds.Special same = (let no : kinds.Special ≡ kinds.Index = sym same ∙ is in cc)

-- ---- a call that only read

pub read_leaves : {D : Type 0} {g : Ghosts D} {P : Image → Type 0} {d0 d1 : D} {n : ℕ} → OnlyReads g n d0 d1 → Leaves g d0 d1 P
read_leaves {g = g} {d0 = d0} {d1} reads = wider g d0 d1 Nothing _ reads.images (λ c none. absurd none)

-- it was refused, by what a `?` makes of a trouble
pub read_refused : {D A : Type 0} {g : Ghosts D} {graph : Graph} {P : A → Type 0} {d0 d1 : D} {n : ℕ} → OnlyReads g n d0 d1 → (result : Result A Refused) (t : Trouble) → IsErrAnd result (λ e. e ≡ refused_by t) → is_damage t ≡ false → GoesTo g graph P d0 d1 result
read_refused reads (Ok x) t is sound = absurd is
read_refused reads (Err e) t is sound = record { done = tt; leaves = read_leaves reads; sound = ap has_met_damage is ∙ damaged_by t sound }
