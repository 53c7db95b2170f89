-- The root that is to lead to a node of which leaves are taken.
use Rattle.normal_files.proofs.Words.{◌≡◌, ◌≢◌, inl, inr, ℕ, ◌<◌, true, false, List, length, set, get_or, refl, sym, ◌∙◌, ap, get_or-set_other, get_or-set_same, cases_Bool, cases_eq, ext_get_or, length-set, ne_eqb}
use Rattle.block_tree.specs.Way.{with_node}
use Rattle.normal_files.specs.Laid.{node_of}
use Rattle.normal_files.specs.Links.{linked_root}
use Rattle.normal_files.specs.Plans.{Plan}
use Rattle.normal_files.specs.Takes.{is_held}
use Rattle.block_tree.specs.declared.root.Root as roots

-- ---- a pointer that is put where it stands changes nothing

same_set : (xs : List ℕ) (n : ℕ) → n < length xs → set xs n (get_or xs n 0) ≡ xs
same_set xs n inside = ext_get_or 0 (set xs n (get_or xs n 0)) xs (length-set xs n (get_or xs n 0)) (λ k less. elim (cases_eq k n) [
  | inl is ↦ ap (λ (j : ℕ). get_or (set xs n (get_or xs n 0)) j 0) is ∙ get_or-set_same xs n (get_or xs n 0) 0 inside ∙ ap (λ (j : ℕ). get_or xs j 0) (sym is)
  | inr apart ↦ get_or-set_other xs n k (get_or xs n 0) 0 apart
])

with_same : (root : roots.Root) (n : ℕ) → n < length root.nodes → with_node root n (node_of root n) ≡ root
with_same root n inside = ap (λ (ns : List ℕ). record root { nodes = ns }) (same_set root.nodes n inside)

-- ---- what a root leads to

led_new : (root : roots.Root) (n : ℕ) (plan : Plan) → plan.grown ≡ true → node_of root n ≡ 0 → linked_root root n plan ≡ with_node root n plan.block
led_new root n plan grown none = rw (grown, none) refl

led_same : (root : roots.Root) (n : ℕ) (plan : Plan) → node_of root n ≢ 0 → linked_root root n plan ≡ root
led_same root n plan some = elim (cases_Bool plan.grown) [ inl grown ↦ rw (grown, ne_eqb (node_of root n) 0 some) refl | inr not ↦ rw not refl ]

led_none : (root : roots.Root) (n : ℕ) (plan : Plan) → plan.grown ≡ false → linked_root root n plan ≡ root
led_none root n plan not = rw not refl

-- all other nodes stay
pub led_other : (root : roots.Root) (n m : ℕ) (plan : Plan) → m ≢ n → node_of (linked_root root n plan) m ≡ node_of root m
led_other root n m plan apart = elim (cases_Bool plan.grown) [
  | inr not ↦ ap (λ (r : roots.Root). node_of r m) (led_none root n plan not)
  | inl grown ↦ elim (cases_eq (node_of root n) 0) [
    | inr some ↦ ap (λ (r : roots.Root). node_of r m) (led_same root n plan some)
    | inl none ↦ ap (λ (r : roots.Root). node_of r m) (led_new root n plan grown none) ∙ get_or-set_other root.nodes n m plan.block 0 apart
  ]
]

-- and so does each that stood
pub led_stays : (root : roots.Root) (n m : ℕ) (plan : Plan) → node_of root m ≢ 0 → node_of (linked_root root n plan) m ≡ node_of root m
led_stays root n m plan some = elim (cases_eq m n) [
  | inl is ↦ ap (λ (r : roots.Root). node_of r m) (led_same root n plan (λ none. some (ap (node_of root) is ∙ none)))
  | inr apart ↦ led_other root n m plan apart
]

-- once one leaf more is taken
pub led_more : (lead : roots.Root) (n : ℕ) (plan : Plan) (root : roots.Root) (y : ℕ) (more : Plan) → n < length root.nodes → plan.block ≡ node_of root n → root ≡ linked_root lead n plan → (is_held (node_of lead n) plan.grown ≡ true → y ≡ plan.block) → more.grown ≡ true → more.block ≡ y
    → with_node root n y ≡ linked_root lead n more
led_more lead n plan root y more inside here is held grown block = elim (cases_eq (node_of lead n) 0) [
  | inr some ↦
      kept (held (rw (ne_eqb (node_of lead n) 0 some) refl)) ∙ is ∙ led_same lead n plan some ∙ sym (led_same lead n more some)
  | inl none ↦ elim (cases_Bool plan.grown) [
    | inr not ↦ ap (λ (r : roots.Root). with_node r n y) (is ∙ led_none lead n plan not) ∙ ap (with_node lead n) (sym block) ∙ sym (led_new lead n more grown none)
    | inl was ↦
        let same = held (rw (none, was) refl) in
        kept same ∙ is ∙ led_new lead n plan was none ∙ ap (with_node lead n) (sym same ∙ sym block) ∙ sym (led_new lead n more grown none)
  ]
]
  where
    kept : y ≡ plan.block → with_node root n y ≡ root
    kept same = ap (with_node root n) (same ∙ here) ∙ with_same root n inside
