-- How many blocks a write takes: as the flags have it, and as the model does.
use Rattle.std.proofs.Common.{◌≡◌, inl, inr, ℕ, ◌+◌, ◌-◌, ◌*◌, ◌/◌, ◌<◌, ◌≤◌, Bool, true, false, not, List, length, get_or, set, refl, sym, ◌∙◌, ap, subst, get_or-set_other, get_or-set_same, arith, if◌then◌else◌}
use Rattle.special_files.proofs.Words.{Draft, Drafting, Drafts, IsOpen, Overwrite, Puid, SetsFlags, both_ways, cases_Bool, cases_lt, draft_takes, filter, first_level, has_number, in_map, in_numbers, in_withs, is_fresh_leaf, is_fresh_node, lacking, leaf_pointers, leaves_in, leaves_take, map, missing, next_levels, numbers-rise, one_unless, parents, range_with_len, same_numbers, set_in, to_map, to_numbers, to_withs, touched, unset_in, with_numbers-rise, written_anew}
use Rattle.special_files.proofs.Levels.{filter_same, unset_first}
use Rattle.special_files.proofs.Marks.{first_is, in_set, next_is, to_set}

-- ---- one leaf less to be written

same_unset : (flags others : List Bool) (from to : ℕ) → ((m : ℕ) → from ≤ m → m < to → get_or others m false ≡ get_or flags m false) → unset_in others from to ≡ unset_in flags from to
unfolding unset_in
same_unset flags others from to same = elim (cases_lt from to) [
  | inl less ↦ filter_same (λ n. not (get_or flags n false)) (λ n. not (get_or others n false)) from (to - from) (λ m low high. ap not (same m low (omega (arith, high, less))))
  | inr past ↦ let none : to - from ≡ 0 = omega (arith, past) in rw none refl
]

pub takes_less : (leaf to : ℕ) (was now : Drafting) → leaf < to → leaf / leaf_pointers.count < length was.nodes → leaf < length was.leaves → SetsFlags leaf was now → draft_takes was leaf + leaves_take now (leaf + 1) to ≤ leaves_take was leaf to
takes_less leaf to was now less few within sets = elim (cases_Bool (is_fresh_leaf was leaf)) [
  | inl fresh ↦ elim sets.nodes [
    | inl same ↦ omega (arith, takes_none fresh, leaves_part, ap one_unless fresh, ap (λ (ns : List Bool). length (unset_in ns ((leaf + 1) / leaf_pointers.count) ((to + (leaf_pointers.count - 1)) / leaf_pointers.count))) same.1, node_step was.nodes)
    | inr set_now ↦ omega (arith, takes_none fresh, leaves_part, ap one_unless fresh, ap (λ (ns : List Bool). length (unset_in ns ((leaf + 1) / leaf_pointers.count) ((to + (leaf_pointers.count - 1)) / leaf_pointers.count))) set_now, node_set)
  ]
  | inr stale ↦ elim sets.nodes [
    | inl same ↦ absurd (both_ways _ stale same.0)
    | inr set_now ↦ omega (arith, takes_some stale, leaves_part, ap one_unless stale, ap (λ (ns : List Bool). length (unset_in ns ((leaf + 1) / leaf_pointers.count) ((to + (leaf_pointers.count - 1)) / leaf_pointers.count))) set_now, node_set)
  ]
]
  where
    takes_none : is_fresh_leaf was leaf ≡ true → draft_takes was leaf ≡ 0
    takes_none fresh = ap (λ (b : Bool). if b then 0 else 1 + one_unless (is_fresh_node was (leaf / leaf_pointers.count))) fresh

    takes_some : is_fresh_leaf was leaf ≡ false → draft_takes was leaf ≡ 1 + one_unless (is_fresh_node was (leaf / leaf_pointers.count))
    takes_some stale = ap (λ (b : Bool). if b then 0 else 1 + one_unless (is_fresh_node was (leaf / leaf_pointers.count))) stale

    leaves_part : length (unset_in was.leaves leaf to) ≡ one_unless (is_fresh_leaf was leaf) + length (unset_in now.leaves (leaf + 1) to)
    leaves_part = unset_first was.leaves leaf to less ∙ ap (λ (ns : List ℕ). one_unless (is_fresh_leaf was leaf) + length ns) (sym (ap (λ (fs : List Bool). unset_in fs (leaf + 1) to) sets.leaves
        ∙ same_unset was.leaves (set was.leaves leaf true) (leaf + 1) to (λ m low high. get_or-set_other was.leaves leaf m true false (λ e. omega (arith, low, e)))))

    -- from the next leaf's node on there is no more than from this one's on
    node_step : (flags : List Bool) → length (unset_in flags ((leaf + 1) / leaf_pointers.count) ((to + (leaf_pointers.count - 1)) / leaf_pointers.count)) ≤ length (unset_in flags (leaf / leaf_pointers.count) ((to + (leaf_pointers.count - 1)) / leaf_pointers.count))
    node_step flags = elim (cases_lt (leaf / leaf_pointers.count) ((leaf + 1) / leaf_pointers.count)) [
      | inl more ↦
          let next : (leaf + 1) / leaf_pointers.count ≡ leaf / leaf_pointers.count + 1 = omega (arith, more) in
          omega (arith, unset_first flags (leaf / leaf_pointers.count) ((to + (leaf_pointers.count - 1)) / leaf_pointers.count) (omega (arith, less)), ap (λ (n : ℕ). length (unset_in flags n ((to + (leaf_pointers.count - 1)) / leaf_pointers.count))) next)
      | inr same ↦ let is : (leaf + 1) / leaf_pointers.count ≡ leaf / leaf_pointers.count = omega (arith, same) in omega (arith, ap (λ (n : ℕ). length (unset_in flags n ((to + (leaf_pointers.count - 1)) / leaf_pointers.count))) is)
    ]

    node_set : one_unless (is_fresh_node was (leaf / leaf_pointers.count)) + length (unset_in (set was.nodes (leaf / leaf_pointers.count) true) ((leaf + 1) / leaf_pointers.count) ((to + (leaf_pointers.count - 1)) / leaf_pointers.count)) ≤ length (unset_in was.nodes (leaf / leaf_pointers.count) ((to + (leaf_pointers.count - 1)) / leaf_pointers.count))
    node_set =
        let flags = set was.nodes (leaf / leaf_pointers.count) true in
        omega (
          arith,
          node_step flags,
          unset_first flags (leaf / leaf_pointers.count) ((to + (leaf_pointers.count - 1)) / leaf_pointers.count) (omega (arith, less)),
          ap one_unless (get_or-set_same was.nodes (leaf / leaf_pointers.count) true false few),
          ap (length {A = ℕ}) (same_unset was.nodes flags (leaf / leaf_pointers.count + 1) ((to + (leaf_pointers.count - 1)) / leaf_pointers.count) (λ m low high. get_or-set_other was.nodes (leaf / leaf_pointers.count) m true false (λ e. omega (arith, low, e)))),
          unset_first was.nodes (leaf / leaf_pointers.count) ((to + (leaf_pointers.count - 1)) / leaf_pointers.count) (omega (arith, less)),
        )

-- ---- the model's need

pub has_is : (flags : List Bool) (n : ℕ) → has_number n (set_in flags) ≡ get_or flags n false
has_is flags n = elim (cases_Bool (get_or flags n false)) [
  | inl is ↦ to_set flags n is ∙ sym is
  | inr not_set ↦ elim (cases_Bool (has_number n (set_in flags))) [ inl has ↦ absurd (both_ways _ not_set (in_set flags n has)) | inr has_none ↦ has_none ∙ sym not_set ]
]

lacking_is : (flags : List Bool) (from w : ℕ) → lacking (range_with_len from w) (set_in flags) ≡ filter (λ n. not (get_or flags n false)) (range_with_len from w)
lacking_is flags from w = filter_same (λ n. not (get_or flags n false)) (λ n. not (has_number n (set_in flags))) from w (λ m low high. ap not (has_is flags m))

-- the nodes of leaves one after another
pub parents_of : (from to : ℕ) → from < to → parents (range_with_len from (to - from)) ≡ range_with_len (from / leaf_pointers.count) ((to + (leaf_pointers.count - 1)) / leaf_pointers.count - from / leaf_pointers.count)
parents_of from to less = same_numbers _ _ (with_numbers-rise (map (λ (y : ℕ). y / leaf_pointers.count) (range_with_len from (to - from)))) (numbers-rise (from / leaf_pointers.count) ((to + (leaf_pointers.count - 1)) / leaf_pointers.count - from / leaf_pointers.count)) forth back
  where
    forth : (x : ℕ) → has_number x (parents (range_with_len from (to - from))) ≡ true → has_number x (range_with_len (from / leaf_pointers.count) ((to + (leaf_pointers.count - 1)) / leaf_pointers.count - from / leaf_pointers.count)) ≡ true
    forth x h =
        let n = in_map (λ (y : ℕ). y / leaf_pointers.count) x (range_with_len from (to - from)) (in_withs x (map (λ (y : ℕ). y / leaf_pointers.count) (range_with_len from (to - from))) h) in
        let two = in_numbers n.0 from (to - from) n.1 in
        to_numbers x (from / leaf_pointers.count) ((to + (leaf_pointers.count - 1)) / leaf_pointers.count - from / leaf_pointers.count) (omega (arith, two.0, n.2)) (omega (arith, two.0, two.1, n.2, less))

    there : (x l : ℕ) → from ≤ l → l < to → l / leaf_pointers.count ≡ x → has_number x (parents (range_with_len from (to - from))) ≡ true
    there x l low high is = subst (λ (y : ℕ). has_number y (parents (range_with_len from (to - from))) ≡ true) is
        (to_withs (l / leaf_pointers.count) (map (λ (y : ℕ). y / leaf_pointers.count) (range_with_len from (to - from))) (to_map (λ (y : ℕ). y / leaf_pointers.count) l (range_with_len from (to - from)) (to_numbers l from (to - from) low (omega (arith, high, low)))))

    back : (x : ℕ) → has_number x (range_with_len (from / leaf_pointers.count) ((to + (leaf_pointers.count - 1)) / leaf_pointers.count - from / leaf_pointers.count)) ≡ true → has_number x (parents (range_with_len from (to - from))) ≡ true
    back x h = let two = in_numbers x (from / leaf_pointers.count) ((to + (leaf_pointers.count - 1)) / leaf_pointers.count - from / leaf_pointers.count) h in elim (cases_lt (leaf_pointers.count * x) from) [
      | inl before ↦ there x from (omega arith) less (omega (arith, two.0, before))
      | inr after ↦ there x (leaf_pointers.count * x) after (omega (arith, two.1, two.0)) (omega arith)
    ]

pub need_is : (ds : Drafts) (id : Puid) (was : Drafting) (d : Draft) (offset : ℕ) (bytes : List ℕ) → IsOpen ds id was d → offset / 512 < leaves_in (offset + length bytes)
    → missing (written_anew (Overwrite offset bytes) d.object d.fresh) d.fresh ≡ leaves_take was (offset / 512) (leaves_in (offset + length bytes))
unfolding unset_in
need_is ds id was d offset bytes opened less =
    let from = offset / 512 in
    let to = leaves_in (offset + length bytes) in
    let first : first_level d.fresh ≡ set_in was.leaves = first_is d.fresh ∙ opened.fresh 0 in
    let second : first_level (next_levels d.fresh) ≡ set_in was.nodes = first_is (next_levels d.fresh) ∙ next_is d.fresh 0 ∙ opened.fresh 1 in
    let one = ap (λ (ns : List ℕ). length (lacking (touched offset (length bytes)) ns)) first ∙ ap (length {A = ℕ}) (lacking_is was.leaves from (to - from)) in
    let two = ap (λ (ns : List ℕ). length (lacking (parents (touched offset (length bytes))) ns)) second ∙ ap (λ (ns : List ℕ). length (lacking ns (set_in was.nodes))) (parents_of from to less)
    ∙ ap (length {A = ℕ}) (lacking_is was.nodes (from / leaf_pointers.count) ((to + (leaf_pointers.count - 1)) / leaf_pointers.count - from / leaf_pointers.count)) in
    omega (arith, one, two)

pub no_need : (d : Draft) (offset : ℕ) (bytes : List ℕ) → leaves_in (offset + length bytes) ≤ offset / 512 → missing (written_anew (Overwrite offset bytes) d.object d.fresh) d.fresh ≡ 0
no_need d offset bytes none =
    let no : leaves_in (offset + length bytes) - offset / 512 ≡ 0 = omega (arith, none) in
    ap (λ (w : ℕ). length (lacking (range_with_len (offset / 512) w) (first_level d.fresh)) + (length (lacking (parents (range_with_len (offset / 512) w)) (first_level (next_levels d.fresh))) + 0)) no
