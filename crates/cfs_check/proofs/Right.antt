-- An object that has no fault but of entries is a tree, but for its entries.
use Rattle.std.proofs.Common.{◌≡◌, ◌≢◌, ◌⊎◌, inl, inr, ⊎_elim, ℕ, zero, suc, ◌+◌, ◌*◌, ◌<◌, ◌≤◌, Bool, true, false, IsTrue, List, [], ◌∷◌, ◌++◌, length, get_or, Option, Some, None, is_some, refl, sym, ◌∙◌, ap, subst, arith}
use Rattle.std.proofs.lemmas.Bool.{cases_eq, cases_lt}
use Rattle.std.proofs.lemmas.List.{get_or_past}
use Rattle.cfs_base.specs.Codes as codes
use Rattle.cfs_base.specs.Disk.{Image, block_at}
use Rattle.block_tree.specs.Pointers.{leaf_pointers}
use Rattle.block_tree.specs.Tree.{pointer, tree_of}
unfoldable use Rattle.block_tree.specs.Tree.{levels_of}
use Rattle.block_tree.specs.declared.root.Root.{Root}
use Rattle.ufs_model.specs.Object.{leaves_in}
use Rattle.ufs_model.specs.declared.object.Object.{Object}
use Rattle.vol_image.proofs.Views.{held_is}
use Rattle.vol_image.specs.Fault.{ObjectFault, Shows, shown_root, shown_tree}
use Rattle.vol_image.specs.Reading.{leaf_in}
use Rattle.vol_image.specs.Seen.{Held, held_at}
use Rattle.cfs_recover.proofs.Trees.{length-pointers}
use Rattle.cfs_check.proofs.Along.{one_more_place}

-- a fault of entries
abbrev pub IsOfEntry : ℕ → Type 0
IsOfEntry code = (code ≡ codes.no_entry) ⊎ (code ≡ codes.not_owned)

-- the tree by which the object is read is one, but for what the entries say
pub record IsRight (image : Image) (r : ℕ) (root : Root) : Type 0 where
  pub on_disk : (path : List ℕ) (h : Held) → (shown_tree image r).below path ≡ Some h → h.block < length image
  pub within : (leaf : ℕ) (h : Held) → leaf_in (shown_tree image r) leaf ≡ Some h → leaf < leaves_in root.size
  pub filled : (leaf i : ℕ) (h : Held) → leaf_in (shown_tree image r) leaf ≡ Some h → i < 512 → root.size ≤ 512 * leaf + i → get_or h.content i 0 ≡ root.fill
  pub leads_on : (path : List ℕ) (h : Held) → (shown_tree image r).below path ≡ Some h → length path < length (levels_of (shown_root image r)) → (k : ℕ) × IsTrue (is_some ((shown_tree image r).below (path ++ k ∷ [])))

split_last : (k : ℕ) (rest : List ℕ) → (p : List ℕ) × (j : ℕ) × (k ∷ rest ≡ p ++ j ∷ [])
split_last k [] = ([], k, refl)
split_last k (i ∷ rest) = let more = split_last i rest in (k ∷ more.0, more.1, ap (λ (q : List ℕ). k ∷ q) more.2)

-- something stands at one of the first so many places, or nothing does
some_place : (f : ℕ → Option Held) (n : ℕ) → ((k : ℕ) × (is_some (f k) ≡ true)) ⊎ ((k : ℕ) → k < n → f k ≡ None)
some_place f zero = inr (λ k below. absurd (omega (arith, below)))
some_place f (suc n) = elim (some_place f n) [
  | inl found ↦ inl found
  | inr none ↦ at (f n) refl none
]
  where
    at : (o : Option Held) → f n ≡ o → ((k : ℕ) → k < n → f k ≡ None) → ((k : ℕ) × (is_some (f k) ≡ true)) ⊎ ((k : ℕ) → k < suc n → f k ≡ None)
    at None is none = inr (λ k below. elim (cases_lt k n) [ inl less ↦ none k less | inr past ↦ (let same : k ≡ n = omega (arith, below, past) in ap f same ∙ is) ])
    at (Some h) is none = inl (n, ap is_some is)

module _ (image : Image) (r : ℕ) (root : Root) (o : Object) (shows : Shows image r root o) (only : (code n : ℕ) → ObjectFault image r code n → IsOfEntry code) where
  abbrev content : List ℕ
  content = shown_root image r

  no_path : (h : Held) → ¬ ((shown_tree image r).below [] ≡ Some h)
  unfolding levels_of
  no_path h there = cc

  past_last : (p : List ℕ) (k : ℕ) (h : Held) → (shown_tree image r).below (p ++ k ∷ []) ≡ Some h → length image ≤ h.block → ⊥
  past_last p k h there past =
      let is = held_is image (tree_of image content (p ++ k ∷ [])) h there in
      elim (only codes.past_disk _ (ObjectFault.PastDisk root o p k shows (omega (arith, past, ap (λ (x : Held). x.block) is.0)))) [ inl is ↦ omega (arith, is) | inr is ↦ omega (arith, is) ]

  past : (path : List ℕ) (h : Held) → (shown_tree image r).below path ≡ Some h → length image ≤ h.block → ⊥
  past [] h there far = no_path h there
  past (k ∷ rest) h there far =
      let last = split_last k rest in
      past_last last.0 last.1 h (ap (shown_tree image r).below (sym last.2) ∙ there) far

  on_disk : (path : List ℕ) (h : Held) → (shown_tree image r).below path ≡ Some h → h.block < length image
  on_disk path h there = elim (cases_lt h.block (length image)) [ inl below ↦ below | inr far ↦ absurd (past path h there far) ]

  leads_on : (path : List ℕ) (h : Held) → (shown_tree image r).below path ≡ Some h → length path < length (levels_of content) → (k : ℕ) × IsTrue (is_some ((shown_tree image r).below (path ++ k ∷ [])))
  leads_on path h there short = elim (some_place (λ k. (shown_tree image r).below (path ++ k ∷ [])) leaf_pointers.count) [
    | inl found ↦ found
    | inr none ↦ absurd (elim (only codes.dead_end h.block (ObjectFault.DeadEnd root o path h shows there (on_disk path h there) short (λ k. elim (cases_lt k leaf_pointers.count) [
      | inl below ↦ none k below
      | inr far ↦
          let is = held_is image (tree_of image content path) h there in
          ap (held_at image) (one_more_place image r root path k is.1 short ∙ get_or_past _ k 0 (omega (arith, far, length-pointers leaf_pointers (block_at image (tree_of image content path)))))
    ]))) [ inl is ↦ omega (arith, is) | inr is ↦ omega (arith, is) ])
  ]

  pub is_right : IsRight image r root
  is_right = record {
    on_disk = on_disk;
    within = λ leaf h there. elim (cases_lt leaf (leaves_in root.size)) [
      | inl below ↦ below
      | inr far ↦ absurd (elim (only codes.late_leaf h.block (ObjectFault.PastSize root o leaf h (record { shows = shows; here = there; on_disk = on_disk _ h there }) far)) [ inl is ↦ omega (arith, is) | inr is ↦ omega (arith, is) ])
    ];
    filled = λ leaf i h there below far. elim (cases_eq (get_or h.content i 0) root.fill) [
      | inl same ↦ same
      | inr other ↦ absurd (elim (only codes.late_byte h.block (ObjectFault.NotFilled root o leaf i h (record { shows = shows; here = there; on_disk = on_disk _ h there }) below far other)) [ inl is ↦ omega (arith, is) | inr is ↦ omega (arith, is) ])
    ];
    leads_on = leads_on;
  }
