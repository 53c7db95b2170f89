-- What holds of a collection that marks between any two calls.
use Rattle.std.specs.Prelude.{◌≡◌, ◌⊎◌, ℕ, ◌≤◌, Bool, true, List, [], ◌∷◌, Option, Some, None}
use Rattle.cfs_base.specs.declared.identifier.Puid.{Puid}
use Rattle.cfs_base.specs.declared.kind.Kind.TheVariants as kinds
use Rattle.ufs_model.specs.declared.collection.Collection.{Collection}
use Rattle.ufs_model.specs.Identifier.{is_among}
use Rattle.ufs_model.specs.Graph.{Graph, is_there, has_pair}
use Rattle.ufs_model.specs.State.{State}
use Rattle.ufs_model.specs.Vanish.{edges, starts}
use Rattle.ufs_model.specs.Reach.{IsReached}
use Rattle.marking.specs.declared.memory.Grey.{Grey}
use Rattle.marking.specs.declared.memory.Rescue.{Rescue}
use Rattle.marking.specs.Leaves.{is_found, kind_at}
use Rattle.marking.specs.Colours.{Colours}
use Rattle.marking.specs.Steps.{is_live}

-- ---- what is still to be done

-- the rescue of x in this index waits, or that of its opening
abbrev pub Waits : List Rescue → Option Puid → Puid → Type 0
Waits [] index x = ⊥
Waits (r ∷ rs) index x = ((r.index ≡ index) × (r.id ≡ x)) ⊎ Waits rs index x

-- this place of the index is still to be read
abbrev pub IsToRead : List Grey → Option Puid → ℕ → Type 0
IsToRead [] index place = ⊥
IsToRead (e ∷ es) index place = ((Some e.id ≡ index) × (e.cursor ≤ place)) ⊎ IsToRead es index place

abbrev pub IsGrey : List Grey → Puid → Type 0
IsGrey [] i = ⊥
IsGrey (e ∷ es) i = (e.id ≡ i) ⊎ IsGrey es i

-- no index is grey twice
abbrev pub AreOnce : List Grey → Type 0
AreOnce [] = Unit {0}
AreOnce (e ∷ es) = (¬ IsGrey es e.id) × AreOnce es

-- what is found here is marked, or will be looked at
pub data IsCovered (c : Colours) (waiting : List Rescue) (from : Option Puid) (leaf : ℕ) (x : Puid) : Type 0 where
  IsMarked : c.marked x.block ≡ true → IsCovered c waiting from leaf x
  IsWaiting : Waits waiting from x → IsCovered c waiting from leaf x
  IsLeft : IsToRead c.grey from leaf → IsCovered c waiting from leaf x

-- ---- what was seen at some time since the collection began

-- x was put into this index, or was in it; without an index, x was the root or open
abbrev pub is_remembered : Collection → Option Puid → Puid → Bool
is_remembered c None x = is_among x (starts c)
is_remembered c (Some i) x = has_pair (edges c) i x

abbrev pub is_index_there : Graph → Option Puid → Bool
is_index_there g None = true
is_index_there g (Some i) = is_there g i

-- ---- the invariant

-- Within one step: where an object may be found that this step still has to shade.
abbrev pub Owed : Type 1
Owed = Option Puid → ℕ → Puid → Type 0

abbrev pub OwesNothing : Owed
OwesNothing from leaf x = ⊥

-- All but what is owed is covered, and what is marked was reached at some time since the collection began.
pub record IsColoured (s : State) (owed : Owed) (c : Colours) (waiting : List Rescue) : Type 0 where
  -- what is found in a marked index, or without an index, is marked or will be looked at
  pub covered : (from : Option Puid) (leaf : ℕ) (x : Puid) → is_found s from leaf x ≡ true → is_live from c ≡ true
      → IsCovered c waiting from leaf x ⊎ owed from leaf x
  -- what is marked is in the graph, and was reached
  pub known : (block : ℕ) → c.marked block ≡ true
      → (x : Puid) × (x.block ≡ block) × (is_there s.graph x ≡ true)
      × IsReached (edges s.collection) (starts s.collection) x
  -- what is grey is a marked index
  pub grey : (i : Puid) → IsGrey c.grey i → (c.marked i.block ≡ true) × (kind_at s.graph i ≡ Some kinds.Index)
  pub once : AreOnce c.grey
  -- what waits is remembered, and so is all that there is now
  pub rescues : (index : Option Puid) (x : Puid) → Waits waiting index x
      → (is_remembered s.collection index x ≡ true) × (is_index_there s.graph index ≡ true)
  pub stands : (from : Option Puid) (leaf : ℕ) (x : Puid) → is_found s from leaf x ≡ true
      → is_remembered s.collection from x ≡ true

-- Between two calls nothing is owed, and the root is marked.
pub record IsMarking (s : State) (c : Colours) (waiting : List Rescue) : Type 0 where
  pub root_marked : c.marked s.graph.root.block ≡ true
  pub coloured : IsColoured s OwesNothing c waiting
