-- Where the blocks of one path are other ones, each path that parts from it leads to what it led to.
use Rattle.std.proofs.Common.{◌≡◌, ◌≢◌, ◌<◌, ◌^◌, inl, inr, ℕ, zero, suc, List, [], ◌∷◌, length, get_or, set, get_or-set_other, get_or-set_same, refl, sym, ◌∙◌, ap, subst, arith}
use Rattle.std.proofs.Math.ListN.{length-set}
use Rattle.std.proofs.lemmas.List.Elements.{All-set}
use Rattle.block_tree.proofs.Words.{Fits, Image, IsNode, Level, Node, Root, block_at, end_of, levels_below, levels_of, node_levels, leaf_pointers, node_pointers, node_spelling, pointer, root_spelling, tree_of}
use Rattle.block_tree.proofs.Spellings.{leaves_of, nodes_of}
use Rattle.block_tree.specs.Way.{CutsTo, IsBefore, IsCut, IsFrom, IsLast, IsPut, LeadsTo, Part, SetsOne, pointers_in, with_leaf, with_node}

-- ---- one block

one_set : (ns : List ℕ) (k x : ℕ) → k < length ns → SetsOne (λ j. get_or ns j 0) k x (λ j. get_or (set ns k x) j 0)
one_set ns k x within = (get_or-set_same ns k x 0 within, λ j apart. get_or-set_other ns k j x 0 apart)

pub fits_with : (root : Root) (n y : ℕ) → Fits root → y < 2 ^ 32 → Fits (with_node root n y)
fits_with root n y fits small = record {
  fill = fits.fill;
  word = fits.word;
  count = length-set root.nodes n y ∙ fits.count;
  nodes = All-set (λ p. p < 2 ^ 32) root.nodes n y small fits.nodes;
}

pub sets_node : (root : Root) (n y : ℕ) → Fits root → y < 2 ^ 32 → n < node_pointers.count → SetsOne (pointer node_pointers (root_spelling root)) n y (pointer node_pointers (root_spelling (with_node root n y)))
sets_node root n y fits small within =
    let one = one_set root.nodes n y (omega (arith, within, fits.count)) in
    let was : (j : ℕ) → pointer node_pointers (root_spelling root) j ≡ get_or root.nodes j 0 = λ j. ap (λ (ns : List ℕ). get_or ns j 0) (sym (nodes_of root fits)) in
    let now : (j : ℕ) → pointer node_pointers (root_spelling (with_node root n y)) j ≡ get_or (set root.nodes n y) j 0 = λ j. ap (λ (ns : List ℕ). get_or ns j 0) (sym (nodes_of (with_node root n y) (fits_with root n y fits small))) in
    (now n ∙ one.0, λ j apart. now j ∙ one.1 j apart ∙ sym (was j))

pub node_with : (node : Node) (k y : ℕ) → IsNode node → y < 2 ^ 32 → IsNode (with_leaf node k y)
node_with node k y is small = record { count = length-set node.leaves k y ∙ is.count; fit = All-set (λ p. p < 2 ^ 32) node.leaves k y small is.fit }

pub sets_leaf : (node : Node) (k y : ℕ) → IsNode node → y < 2 ^ 32 → k < leaf_pointers.count → SetsOne (pointer leaf_pointers (node_spelling node)) k y (pointer leaf_pointers (node_spelling (with_leaf node k y)))
sets_leaf node k y is small within =
    let one = one_set node.leaves k y (omega (arith, within, is.count)) in
    let is_now = node_with node k y is small in
    let was : (j : ℕ) → pointer leaf_pointers (node_spelling node) j ≡ get_or node.leaves j 0 = λ j. ap (λ (ns : List ℕ). get_or ns j 0) (sym (leaves_of node is)) in
    let now : (j : ℕ) → pointer leaf_pointers (node_spelling (with_leaf node k y)) j ≡ get_or (set node.leaves k y) j 0 = λ j. ap (λ (ns : List ℕ). get_or ns j 0) (sym (leaves_of (with_leaf node k y) is_now)) in
    (now k ∙ one.0, λ j apart. now j ∙ one.1 j apart ∙ sym (was j))

-- ---- a path

-- the block at the end of a path that begins with one of these pointers
abbrev walk : Image → List Level → (ℕ → ℕ) → List ℕ → ℕ
walk image levels pointers [] = 0
walk image levels pointers (k ∷ path) = end_of image levels (pointers k) path

-- each block on a path that parts from this one has its content
abbrev StaysBeside : (a b : Image) → List Level → (old : ℕ → ℕ) → (path : List ℕ) → Type 0
StaysBeside a b levels old path = (q : List ℕ) → Part path q → walk a levels old q ≢ 0 → block_at b (walk a levels old q) ≡ block_at a (walk a levels old q)

-- one step, and then the rest
pub step_end : (image : Image) (level : Level) (levels : List Level) (n m : ℕ) (r : List ℕ) → end_of image (level ∷ levels) n (m ∷ r) ≡ end_of image levels (pointers_in image level n m) r
step_end image level levels zero m [] = refl
step_end image level levels zero m (k ∷ r) = refl
step_end image level levels (suc n) m r = refl

-- the same blocks lead to the same
same_end : (a b : Image) (levels : List Level) (n : ℕ) → ((s : List ℕ) → end_of a levels n s ≢ 0 → block_at b (end_of a levels n s) ≡ block_at a (end_of a levels n s)) → (r : List ℕ) → end_of b levels n r ≡ end_of a levels n r
same_end a b levels n same [] = refl
same_end a b levels zero same (k ∷ r) = refl
same_end a b [] (suc n) same (k ∷ r) = refl
same_end a b (level ∷ levels) (suc n) same (k ∷ r) =
    ap (λ (c : List ℕ). end_of b levels (pointer level c k) r) (same [] (λ none. cc)) ∙ same_end a b levels (pointer level (block_at a (suc n)) k) (λ s. same (k ∷ s)) r

-- a path that parts at once
away : (a b : Image) (levels : List Level) (old new : ℕ → ℕ) (k x : ℕ) → SetsOne old k x new → (j : ℕ) → j ≢ k → ((s : List ℕ) → end_of a levels (old j) s ≢ 0 → block_at b (end_of a levels (old j) s) ≡ block_at a (end_of a levels (old j) s)) → (r : List ℕ)
    → end_of b levels (new j) r ≡ end_of a levels (old j) r
away a b levels old new k x sets j apart same r = ap (λ (n : ℕ). end_of b levels n r) (sets.1 j apart) ∙ same_end a b levels (old j) same r

parted : (a b : Image) (levels : List Level) (old new : ℕ → ℕ) (path blocks : List ℕ) → LeadsTo a b levels old new path blocks → StaysBeside a b levels old path → (q : List ℕ) → Part path q → walk b levels new q ≡ walk a levels old q
parted a b levels old new [] blocks leads stays q part = absurd part
parted a b levels old new (k ∷ path) blocks leads stays [] part = refl
parted a b levels old new (k ∷ path) [] leads stays (j ∷ q) part = absurd leads
parted a b levels old new (k ∷ []) (x ∷ blocks) leads stays (j ∷ q) (inl apart) = away a b levels old new k x leads.0 j apart (λ s. stays (j ∷ s) (inl apart)) q
parted a b levels old new (k ∷ []) (x ∷ blocks) leads stays (j ∷ q) (inr on) = absurd on.1
parted a b [] old new (k ∷ i ∷ path) (x ∷ blocks) leads stays (j ∷ q) part = absurd leads
parted a b (level ∷ levels) old new (k ∷ i ∷ path) (x ∷ blocks) leads stays (j ∷ q) (inl apart) = away a b (level ∷ levels) old new k x leads.0 j apart (λ s. stays (j ∷ s) (inl apart)) q
parted a b (level ∷ levels) old new (k ∷ i ∷ path) (x ∷ blocks) leads stays (j ∷ []) (inr on) = absurd on.1
parted a b (level ∷ levels) old new (k ∷ i ∷ path) (x ∷ blocks) leads stays (j ∷ m ∷ r) (inr on) =
    ap (λ (n : ℕ). end_of b (level ∷ levels) (new n) (m ∷ r)) on.0 ∙ ap (λ (n : ℕ). end_of b (level ∷ levels) n (m ∷ r)) leads.0.0
    ∙ step_end b level levels x m r ∙ parted a b levels (pointers_in a level (old k)) (pointers_in b level x) (i ∷ path) blocks leads.1 below (m ∷ r) on.1
    ∙ sym (step_end a level levels (old k) m r) ∙ ap (λ (n : ℕ). end_of a (level ∷ levels) (old n) (m ∷ r)) (sym on.0)
  where
    below : StaysBeside a b levels (pointers_in a level (old k)) (i ∷ path)
    below [] apart some = absurd (some refl)
    below (h ∷ s) apart some =
        let same = step_end a level levels (old k) h s in
        subst (λ (n : ℕ). block_at b n ≡ block_at a n) same (stays (k ∷ h ∷ s) (inr (refl, apart)) (λ none. some (sym same ∙ none)))

-- the path itself leads to the last of its blocks
ended : (a b : Image) (levels : List Level) (old new : ℕ → ℕ) (path blocks : List ℕ) (last : ℕ) → LeadsTo a b levels old new path blocks → IsLast blocks last → walk b levels new path ≡ last
ended a b levels old new [] blocks last leads is = absurd leads
ended a b levels old new (k ∷ path) [] last leads is = absurd leads
ended a b levels old new (k ∷ []) (x ∷ []) last leads is = leads.0.0 ∙ is
ended a b levels old new (k ∷ []) (x ∷ y ∷ blocks) last leads is = cc
ended a b [] old new (k ∷ i ∷ path) (x ∷ blocks) last leads is = absurd leads
ended a b (level ∷ levels) old new (k ∷ i ∷ path) (x ∷ []) last leads is = absurd leads.1
ended a b (level ∷ levels) old new (k ∷ i ∷ path) (x ∷ y ∷ blocks) last leads is =
    ap (λ (n : ℕ). end_of b (level ∷ levels) n (i ∷ path)) leads.0.0 ∙ step_end b level levels x i path
    ∙ ended a b levels (pointers_in a level (old k)) (pointers_in b level x) (i ∷ path) (y ∷ blocks) last leads.1 is

-- ---- from a root

walk_is : (image : Image) (root q : List ℕ) → walk image (levels_below node_levels) (pointer node_pointers root) q ≡ tree_of image root q
unfolding levels_of
walk_is image root [] = refl
walk_is image root (k ∷ q) = refl

pub put_beside : (a b : Image) (old new path blocks : List ℕ) → IsPut a b old new path blocks → (q : List ℕ) → Part path q → tree_of b new q ≡ tree_of a old q
put_beside a b old new path blocks put q part =
    sym (walk_is b new q) ∙ parted a b (levels_below node_levels) (pointer node_pointers old) (pointer node_pointers new) path blocks put.leads stays q part ∙ walk_is a old q
  where
    stays : StaysBeside a b (levels_below node_levels) (pointer node_pointers old) path
    stays p apart = subst (λ (n : ℕ). n ≢ 0 → block_at b n ≡ block_at a n) (sym (walk_is a old p)) (put.stays p apart)

pub put_here : (a b : Image) (old new path blocks : List ℕ) (last : ℕ) → IsPut a b old new path blocks → IsLast blocks last → tree_of b new path ≡ last
put_here a b old new path blocks last put is =
    sym (walk_is b new path) ∙ ended a b (levels_below node_levels) (pointer node_pointers old) (pointer node_pointers new) path blocks last put.leads is

-- ---- a path cut

-- pointer 0 leads nowhere
nowhere : (image : Image) (levels : List Level) (r : List ℕ) → end_of image levels 0 r ≡ 0
nowhere image levels [] = refl
nowhere image levels (k ∷ r) = refl

-- each block before the end of this path has its content
abbrev StaysBefore : (a b : Image) → List Level → (old : ℕ → ℕ) → (path : List ℕ) → Type 0
StaysBefore a b levels old path = (q : List ℕ) → IsBefore path q → walk a levels old q ≢ 0 → block_at b (walk a levels old q) ≡ block_at a (walk a levels old q)

cut_before : (a b : Image) (levels : List Level) (old new : ℕ → ℕ) (path blocks : List ℕ) → CutsTo a b levels old new path blocks → StaysBefore a b levels old path → (q : List ℕ) → IsBefore path q → walk b levels new q ≡ walk a levels old q
cut_before a b levels old new [] blocks cuts stays q before = absurd cuts
cut_before a b levels old new (k ∷ path) blocks cuts stays [] before = refl
cut_before a b levels old new (k ∷ []) (x ∷ blocks) cuts stays (j ∷ q) before = absurd cuts
cut_before a b levels old new (k ∷ []) [] cuts stays (j ∷ q) before = ap (λ (n : ℕ). end_of b levels n q) (cuts.0 j before) ∙ same_end a b levels (old j) (λ s. stays (j ∷ s) before) q
cut_before a b levels old new (k ∷ i ∷ path) [] cuts stays (j ∷ q) before = absurd cuts
cut_before a b [] old new (k ∷ i ∷ path) (x ∷ blocks) cuts stays (j ∷ q) before = absurd cuts
cut_before a b (level ∷ levels) old new (k ∷ i ∷ path) (x ∷ blocks) cuts stays (j ∷ q) (inl less) =
    ap (λ (n : ℕ). end_of b (level ∷ levels) n q) (cuts.0.1 j less) ∙ same_end a b (level ∷ levels) (old j) (λ s. stays (j ∷ s) (inl less)) q
cut_before a b (level ∷ levels) old new (k ∷ i ∷ path) (x ∷ blocks) cuts stays (j ∷ []) (inr on) = absurd on.1
cut_before a b (level ∷ levels) old new (k ∷ i ∷ path) (x ∷ blocks) cuts stays (j ∷ m ∷ r) (inr on) =
    ap (λ (n : ℕ). end_of b (level ∷ levels) (new n) (m ∷ r)) on.0 ∙ ap (λ (n : ℕ). end_of b (level ∷ levels) n (m ∷ r)) cuts.0.0
    ∙ step_end b level levels x m r ∙ cut_before a b levels (pointers_in a level (old k)) (pointers_in b level x) (i ∷ path) blocks cuts.1 below (m ∷ r) on.1
    ∙ sym (step_end a level levels (old k) m r) ∙ ap (λ (n : ℕ). end_of a (level ∷ levels) (old n) (m ∷ r)) (sym on.0)
  where
    below : StaysBefore a b levels (pointers_in a level (old k)) (i ∷ path)
    below [] apart some = absurd (some refl)
    below (h ∷ s) apart some =
        let same = step_end a level levels (old k) h s in
        subst (λ (n : ℕ). block_at b n ≡ block_at a n) same (stays (k ∷ h ∷ s) (inr (refl, apart)) (λ none. some (sym same ∙ none)))

cut_from : (a b : Image) (levels : List Level) (old new : ℕ → ℕ) (path blocks : List ℕ) → CutsTo a b levels old new path blocks → (q : List ℕ) → IsFrom path q → walk b levels new q ≡ 0
cut_from a b levels old new [] blocks cuts q from = absurd cuts
cut_from a b levels old new (k ∷ path) blocks cuts [] from = refl
cut_from a b levels old new (k ∷ []) (x ∷ blocks) cuts (j ∷ q) from = absurd cuts
cut_from a b levels old new (k ∷ []) [] cuts (j ∷ q) from = ap (λ (n : ℕ). end_of b levels n q) (cuts.1 j from) ∙ nowhere b levels q
cut_from a b levels old new (k ∷ i ∷ path) [] cuts (j ∷ q) from = absurd cuts
cut_from a b [] old new (k ∷ i ∷ path) (x ∷ blocks) cuts (j ∷ q) from = absurd cuts
cut_from a b (level ∷ levels) old new (k ∷ i ∷ path) (x ∷ blocks) cuts (j ∷ q) (inl more) = ap (λ (n : ℕ). end_of b (level ∷ levels) n q) (cuts.0.2 j more) ∙ nowhere b (level ∷ levels) q
cut_from a b (level ∷ levels) old new (k ∷ i ∷ path) (x ∷ blocks) cuts (j ∷ []) (inr on) = absurd on.1
cut_from a b (level ∷ levels) old new (k ∷ i ∷ path) (x ∷ blocks) cuts (j ∷ m ∷ r) (inr on) =
    ap (λ (n : ℕ). end_of b (level ∷ levels) (new n) (m ∷ r)) on.0 ∙ ap (λ (n : ℕ). end_of b (level ∷ levels) n (m ∷ r)) cuts.0.0
    ∙ step_end b level levels x m r ∙ cut_from a b levels (pointers_in a level (old k)) (pointers_in b level x) (i ∷ path) blocks cuts.1 (m ∷ r) on.1

pub path_cut_before : (a b : Image) (old new path blocks : List ℕ) → IsCut a b old new path blocks → (q : List ℕ) → IsBefore path q → tree_of b new q ≡ tree_of a old q
path_cut_before a b old new path blocks cut q before =
    sym (walk_is b new q) ∙ cut_before a b (levels_below node_levels) (pointer node_pointers old) (pointer node_pointers new) path blocks cut.cuts stays q before ∙ walk_is a old q
  where
    stays : StaysBefore a b (levels_below node_levels) (pointer node_pointers old) path
    stays p apart = subst (λ (n : ℕ). n ≢ 0 → block_at b n ≡ block_at a n) (sym (walk_is a old p)) (cut.stays p apart)

pub path_cut_from : (a b : Image) (old new path blocks : List ℕ) → IsCut a b old new path blocks → (q : List ℕ) → IsFrom path q → tree_of b new q ≡ 0
path_cut_from a b old new path blocks cut q from = sym (walk_is b new q) ∙ cut_from a b (levels_below node_levels) (pointer node_pointers old) (pointer node_pointers new) path blocks cut.cuts q from
