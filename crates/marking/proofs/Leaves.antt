-- What an index refers to stands in its leaves, and what stands in them it refers to.
use Rattle.std.proofs.Common.{◌≡◌, ◌⊎◌, inl, inr, ℕ, zero, suc, ◌+◌, ◌*◌, ◌≤◌, List, [], ◌∷◌, ◌++◌, length, take, drop, refl, sym, ◌∙◌, ap, subst, arith, true, Option, Some, None}
use Rattle.marking.proofs.Words.{File, FileKind, Graph, Index, Kind, Object, Puid, drop-drop, file_kind, filter_map, filter_map-append, graph_pairs, has_pair, has_pair-refers, ids_of, in_leaf, is_among, is_some, kind_standing, length-drop, list_any-append, object_at, or_cases, or_left, or_right, refers, rises, same_puid, take-append-drop}
use Rattle.cfs_base.specs.declared.kind.Kind.TheVariants as kinds
use Rattle.cfs_base.specs.declared.kind.FileKind.TheVariants as file_kinds
use Rattle.ufs_model.specs.declared.object.Object.TheVariants as objects

-- ---- what stands at an identifier

pub leaf_kind : (here : Option Object) (leaf : ℕ) (x : Puid) → in_leaf here leaf x ≡ true → kind_standing here ≡ Some kinds.Index
leaf_kind None leaf x h = cc
leaf_kind (Some (objects.File f)) leaf x h = cc
leaf_kind (Some (objects.Index i)) leaf x h = refl

pub kind_there : (here : Option Object) (kind : Kind) → kind_standing here ≡ Some kind → is_some here ≡ true
kind_there None kind h = cc
kind_there (Some o) kind h = refl

pub there_kind : (here : Option Object) → is_some here ≡ true → (kind : Kind) × (kind_standing here ≡ Some kind)
there_kind None h = cc
there_kind (Some (objects.File f)) h = (_, refl)
there_kind (Some (objects.Index i)) h = (kinds.Index, refl)

pub no_file : (k : FileKind) → Some (file_kind k) ≡ Some kinds.Index → ⊥
no_file file_kinds.Normal h = cc
no_file file_kinds.Special h = cc

-- what has the kind of a file is one
pub file_there : (o : Object) (k : FileKind) → kind_standing (Some o) ≡ Some (file_kind k) → (f : File) × (o ≡ objects.File f)
file_there (objects.File f) k h = (f, refl)
file_there (objects.Index i) k h = absurd (no_file k (sym h))

pub index_there : (here : Option Object) → kind_standing here ≡ Some kinds.Index → (i : Index) × (here ≡ Some (objects.Index i))
index_there None h = cc
index_there (Some (objects.File f)) h = absurd (no_file f.kind h)
index_there (Some (objects.Index i)) h = (i, refl)

-- ---- slots and their leaves

abbrev ids_in : List (Option Puid) → List Puid
ids_in slots = filter_map (λ slot. slot) slots

-- among the identifiers of two parts
parts : (x : Puid) (xs ys : List (Option Puid)) → is_among x (ids_in (xs ++ ys)) ≡ true → (is_among x (ids_in xs) ≡ true) ⊎ (is_among x (ids_in ys) ≡ true)
parts x xs ys h = or_cases _ _ (sym (list_any-append (same_puid x) (ids_in xs) (ids_in ys)) ∙ ap (is_among x) (sym (filter_map-append (λ slot. slot) xs ys)) ∙ h)

whole : (x : Puid) (n : ℕ) (xs : List (Option Puid)) → (is_among x (ids_in (take n xs)) ≡ true) ⊎ (is_among x (ids_in (drop n xs)) ≡ true) → is_among x (ids_in xs) ≡ true
whole x n xs h =
    ap (λ slots. is_among x (ids_in slots)) (sym (take-append-drop n xs)) ∙ ap (is_among x) (filter_map-append (λ slot. slot) (take n xs) (drop n xs))
    ∙ list_any-append (same_puid x) (ids_in (take n xs)) (ids_in (drop n xs)) ∙ elim h [ inl a ↦ or_left _ _ a | inr b ↦ or_right _ _ b ]

-- a filled slot lies in some leaf
find_leaf : (n : ℕ) (slots : List (Option Puid)) (x : Puid) → length slots ≤ 64 * n → is_among x (ids_in slots) ≡ true → (leaf : ℕ) × (is_among x (ids_in (take 64 (drop (64 * leaf) slots))) ≡ true)
find_leaf zero [] x few h = cc
find_leaf zero (s ∷ slots) x few h = absurd (omega arith)
find_leaf (suc n) slots x few h =
    elim (parts x (take 64 slots) (drop 64 slots) (ap (λ l. is_among x (ids_in l)) (take-append-drop 64 slots) ∙ h)) [
      | inl here ↦ (0, here)
      | inr later ↦
          let rest = find_leaf n (drop 64 slots) x (omega (arith, length-drop 64 slots)) later in
          let at : 64 + 64 * rest.0 ≡ 64 * suc rest.0 = omega arith in
          (suc rest.0, subst (λ (l : List (Option Puid)). is_among x (ids_in (take 64 l)) ≡ true) (drop-drop (64 * rest.0) 64 slots ∙ ap (λ (k : ℕ). drop k slots) at) rest.1)
    ]

-- what stands in a leaf the index refers to
pub leaf_refers : (here : Option Object) (leaf : ℕ) (x : Puid) → in_leaf here leaf x ≡ true → refers here x ≡ true
leaf_refers None leaf x h = cc
leaf_refers (Some (objects.File f)) leaf x h = cc
leaf_refers (Some (objects.Index index)) leaf x h = whole x (64 * leaf) index.slots (inr (whole x 64 (drop (64 * leaf) index.slots) (inl h)))

-- ---- pairs of a graph

pub leaf_pair : (g : Graph) → rises (ids_of g) ≡ true → (i x : Puid) (leaf : ℕ) → in_leaf (object_at g i) leaf x ≡ true → has_pair (graph_pairs g) i x ≡ true
leaf_pair g up i x leaf h = has_pair-refers g up i x ∙ leaf_refers (object_at g i) leaf x h

-- what an object refers to stands in a leaf of it
pub refers_leaf : (here : Option Object) (x : Puid) → refers here x ≡ true → (leaf : ℕ) × (in_leaf here leaf x ≡ true)
refers_leaf None x h = cc
refers_leaf (Some (objects.File f)) x h = cc
refers_leaf (Some (objects.Index index)) x h = find_leaf (length index.slots) index.slots x (omega arith) h

pub pair_leaf : (g : Graph) → rises (ids_of g) ≡ true → (i x : Puid) → has_pair (graph_pairs g) i x ≡ true → (leaf : ℕ) × (in_leaf (object_at g i) leaf x ≡ true)
pair_leaf g up i x h = refers_leaf (object_at g i) x (sym (has_pair-refers g up i x) ∙ h)
