-- An object whose nodes were all checked is taken, as it is shown.
use Rattle.std.proofs.Common.{◌≡◌, ℕ, ◌<◌, true, List, [], length, get_or, Option, refl, sym, ◌∙◌, ap, subst, arith}
use Rattle.cfs_recover.proofs.Words.{AsRoot, AreGoodBelow, Branch, HasPointers, Head, Held, Image, IsCopy, IsGoodTree, IsKeptBlock, IsOpened, IsRootBlock, IsTree, IsWalkedObject, Kind, Puid, Root, Walk, block_at, end_of, holds, object_kind, levels_below, levels_of, node_pointers, object_with, path_to, pointers_of, object_shown, reader, reader_is, shown_root, sight, source, node_levels, tree_in}
use Rattle.cfs_base.specs.declared.kind.Kind.TheVariants as kinds
use Rattle.cfs_base.specs.declared.kind.Place.TheVariants as places
use Rattle.cfs_recover.proofs.Good.{all_held, below_all, tree_is}
use Rattle.cfs_recover.proofs.Objects.{root_pointers}
use Rattle.cfs_recover.proofs.Slots.{refers_noted}
use Rattle.cfs_recover.proofs.Trees.{length-pointers}

pub kind_is : (root : Root) (leaf : ℕ → Option Held) → object_kind (object_with root leaf) ≡ root.kind
unfolding object_with
kind_is root leaf = at root.kind refl
  where
    at : (kind : Kind) → root.kind ≡ kind → object_kind (object_with root leaf) ≡ root.kind
    at kinds.Normal is = rw is refl
    at kinds.Special is = rw is refl
    at kinds.Index is = rw is refl

module _ (image : Image) (id : Puid) (head : Head) (opened : IsOpened image id head) where
  abbrev from : ℕ
  from = reader image id.block

  from_source : reader image id.block ≡ source image id.block
  from_source = reader_is image id.block opened.owned opened.one_shadow

  pub root_kept : IsKeptBlock image id.block
  root_kept = record { id = id; place = places.Root; reached = opened.shown.reached; used = AsRoot }

  pub is_copy : IsCopy image id.block head
  is_copy = record { from = opened.shown.from_is ∙ from_source; spelled = subst (λ (n : ℕ). IsRootBlock (block_at image n) head.root) (sym opened.shown.from_is) opened.shown.shows.read.spelled }

  abbrev top : Branch
  top = record { block = head.from; number = 0; height = node_levels }

  pub nodes_are : head.root.nodes ≡ pointers_of node_pointers (shown_root image id.block)
  nodes_are = root_pointers image id head.from head.root opened.shown

  -- its pointers lead to the first level of its tree
  pub top_pointers : HasPointers image id.block head.root top head.root.nodes
  unfolding levels_of path_to
  top_pointers = record {
    read = record { id = id; reached = opened.shown.reached; shows = opened.shown.shows; owner_is = refl };
    above = [];
    level = node_pointers;
    count = ap length nodes_are ∙ length-pointers node_pointers (shown_root image id.block);
    whole = refl;
    inside = omega arith;
    leads = λ k path. ap (λ (ns : List ℕ). end_of image (levels_below node_levels) (get_or ns k 0) path) (sym nodes_are);
    here = opened.shown.from_is;
  }

  module _ (w : Walk) (all : AreGoodBelow image id.block head.root w top head.root.nodes (length head.root.nodes)) (whole : (n : ℕ) → n < length image → length (block_at image n) ≡ 512) (held : holds w id.block ≡ true) where
    nodes : IsGoodTree image id.block head.root w (shown_root image id.block)
    nodes = below_all image id.block head.root w top node_pointers (shown_root image id.block) head.root.nodes nodes_are all

    pub object_tree : IsTree (length image) id.block (tree_in image (block_at image from)) head.root (object_shown image id head.root)
    object_tree = tree_is image id.block from head.root w opened.shown.shows.read.spelled nodes

    pub object_taken : IsWalkedObject image w id (object_shown image id head.root)
    unfolding sight
    object_taken = record {
      reached = opened.shown.reached;
      reads = record {
        part = opened.owned;
        root = opened.shown.shows.read.own;
        spelled = opened.shown.shows.read.own_spelled;
        word = opened.shown.word;
        one_shadow = opened.one_shadow;
        source = head.root;
        same_kind = opened.shown.shows.read.same.kind;
        same_word = opened.shown.shows.read.same.word;
        tree = subst (λ (n : ℕ). IsTree (length image) id.block (tree_in image (block_at image n)) head.root (object_shown image id head.root)) from_source
            object_tree;
      };
      leads = refers_noted image id.block from head.root w opened.shown.shows.read.spelled nodes whole;
      sort = opened.shown.shows.sort;
      root = held;
      below = all_held image id.block from head.root w opened.shown.shows.read.spelled nodes;
    }
