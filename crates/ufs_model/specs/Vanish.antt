-- What a collection may take, and what it must.
use Rattle.std.specs.Prelude.{◌≡◌, Bool, true, false, not, ◌&&◌, ◌||◌, List, [], length}
use Rattle.std.specs.List.{list_all}
use Rattle.cfs_base.specs.declared.identifier.Puid.{Puid}
use Rattle.ufs_model.specs.declared.collection.Collection.{Collection}
use Rattle.ufs_model.specs.declared.collection.Collection.TheVariants as collections
use Rattle.ufs_model.specs.Identifier.{is_among, rises}
use Rattle.ufs_model.specs.Graph.{ids_of, is_there, has_pair}
use Rattle.ufs_model.specs.State.{State, pairs_of}
use Rattle.ufs_model.specs.Reach.{reached, kept, IsReached, IsKept}

-- ---- the collection's memory

-- the pairs that there were at any time since the collection began
abbrev pub edges : Collection → List (Puid × Puid)
edges (collections.Marking stood opened) = stood
edges collections.None = []
edges collections.Sweeping = []

-- the root, and what was open at any time since then
abbrev pub starts : Collection → List Puid
starts (collections.Marking stood opened) = opened
starts collections.None = []
starts collections.Sweeping = []

abbrev pub is_marking : Collection → Bool
is_marking (collections.Marking stood opened) = true
is_marking collections.None = false
is_marking collections.Sweeping = false

-- ---- cut off

-- what is reached from the starts through the edges
abbrev pub reached_since : Collection → List Puid
reached_since c = reached (length (edges c)) (edges c) (starts c)

-- an object of the graph that was at no time reached since the collection began: it is cut off throughout
abbrev pub is_cut_off : State → Puid → Bool
is_cut_off s x = is_there s.graph x && not (is_among x (reached_since s.collection))

pub record IsCutOff (s : State) (x : Puid) : Type 0 where
  pub there : is_there s.graph x ≡ true
  pub cut_off : ¬ IsReached (edges s.collection) (starts s.collection) x

-- ---- whether exactly these may vanish

abbrev pub are_there : State → List Puid → Bool
are_there s ids = rises ids && list_all (is_there s.graph) ids

abbrev pub has_no_kept : State → List Puid → Bool
has_no_kept s ids = list_all (λ x. not (is_among x ids)) (kept s)

-- neither the root nor an open object is one of these
abbrev pub are_no_starts : State → List Puid → Bool
are_no_starts s ids = not (is_among s.graph.root ids) && list_all (λ g. not (is_among g.id ids)) s.grants

-- no index that stays refers to one of these
abbrev pub leaves_no_reference : State → List Puid → Bool
leaves_no_reference s ids = list_all (λ e. is_among e.0 ids || not (is_among e.1 ids)) (pairs_of s)

abbrev pub has_all_cut_off : State → List Puid → Bool
has_all_cut_off s ids = list_all (λ x. not (is_cut_off s x) || is_among x ids) (ids_of s.graph)

abbrev pub may_vanish : State → List Puid → Bool
may_vanish s ids =
    is_marking s.collection && are_there s ids && has_no_kept s ids && leaves_no_reference s ids
    && has_all_cut_off s ids

-- These may vanish at once: each exists, none is kept, no index that stays refers to one, and all that were cut off
-- throughout are among them.
pub record MayVanish (s : State) (ids : List Puid) : Type 0 where
  pub marking : is_marking s.collection ≡ true
  pub rising : rises ids ≡ true
  pub there : (x : Puid) → is_among x ids ≡ true → is_there s.graph x ≡ true
  pub none_kept : (x : Puid) → IsKept s x → is_among x ids ≡ false
  pub none_referred : (i x : Puid) → has_pair (pairs_of s) i x ≡ true → is_among i ids ≡ false → is_among x ids ≡ false
  pub all_cut_off : (x : Puid) → IsCutOff s x → is_among x ids ≡ true
