-- The pieces that are kept of a root, and the root that is made of them again.
use Rattle.std.proofs.Common.{◌≡◌, ◌≢◌, inl, inr, ℕ, zero, suc, ◌+◌, ◌/◌, ◌%◌, ◌<◌, ◌≤◌, ◌^◌, List, [], ◌∷◌, ◌++◌, length, get_or, drop, set, replicate, Option, Some, None, true, false, is_some, refl, sym, ◌∙◌, ap, subst, arith, get_or-set_same, get_or-set_other, length-set, append_assoc, append-nil}
use Rattle.cfs_recover.proofs.Words.{All-get_or, BeginsAnew, BeginsWithout, Copied, IsGoodRoot, IsSome, Piece, Root, all_pieces, cases_lt, drop-cons, drop_of_length-le, from_be_bytes, head_piece, node_piece, node_pieces, piece_at, pieces_of, same_number_lists, w64, node_pointers}

first_is : (p q : Piece) (xs ys : List Piece) → p ∷ xs ≡ q ∷ ys → p.number ≡ q.number
first_is p q xs ys is = let same : p ≡ q = cc in ap (λ (r : Piece). r.number) same

-- ---- what begins pieces

pub anew_without : (k : ℕ) (pieces : List Piece) → k < 255 → BeginsAnew pieces → BeginsWithout k pieces
anew_without k pieces less anew p rest is same = let last = anew p rest is in omega (arith, last, same, less)

-- nodes from a number on have none of a lower number
pub late_nodes : (k j : ℕ) (ns : List ℕ) (rest : List Piece) → k < j → BeginsWithout k rest → BeginsWithout k (node_pieces j ns ++ rest)
unfolding node_pieces
late_nodes k j [] rest less other = other
late_nodes k j (zero ∷ ns) rest less other = late_nodes k (j + 1) ns rest (omega (arith, less)) other
late_nodes k j (suc n ∷ ns) rest less other = λ p more is same.
    let at : j ≡ p.number = first_is (node_piece j (suc n)) p (node_pieces (j + 1) ns ++ rest) more is in omega (arith, at, same, less)

pub pieces_anew : (copies : List Copied) → BeginsAnew (all_pieces copies)
pieces_anew [] p rest is = absurd (no_piece p rest is)
  where
    no_piece : (p : Piece) (rest : List Piece) → [] ≡ p ∷ rest → ⊥
    no_piece p rest is = cc
pieces_anew (c ∷ copies) p rest is = sym (first_is _ p _ rest is)

-- ---- the nodes of a root, one by one

pub nodes_from : (k : ℕ) (ns : List ℕ) → k < length ns → node_pieces k (drop k ns) ≡ piece_at k (get_or ns k 0) ++ node_pieces (k + 1) (drop (k + 1) ns)
unfolding node_pieces
nodes_from k ns less =
    let next : suc k ≡ k + 1 = omega arith in
    ap (node_pieces k) (drop-cons ns k 0 less) ∙ ap (λ (j : ℕ). piece_at k (get_or ns k 0) ++ node_pieces (k + 1) (drop j ns)) next

pub no_node : (k n : ℕ) → n ≡ 0 → piece_at k n ≡ []
no_node k zero is = refl
no_node k (suc n) is = absurd (omega (arith, is))

pub one_node : (k n : ℕ) → n ≢ 0 → piece_at k n ≡ node_piece k n ∷ []
one_node k zero some = absurd (some refl)
one_node k (suc n) some = refl

-- ---- as they are kept, from the first on

pub kept_begin : (old new : List Piece) (h : Piece) (root : Root) → h ≡ head_piece root → new ≡ old ++ h ∷ [] → new ++ node_pieces 0 root.nodes ≡ old ++ pieces_of root
kept_begin old new h root is pushed = ap (λ (xs : List Piece). xs ++ node_pieces 0 root.nodes) pushed ∙ append_assoc old (h ∷ []) (node_pieces 0 root.nodes) ∙ ap (λ (p : Piece). old ++ p ∷ node_pieces 0 root.nodes) is

module _ (k : ℕ) (ns : List ℕ) (less : k < length ns) (kept all : List Piece) (are : kept ++ node_pieces k (drop k ns) ≡ all) where
  pub kept_skip : get_or ns k 0 ≡ 0 → kept ++ node_pieces (k + 1) (drop (k + 1) ns) ≡ all
  kept_skip none = ap (λ (ps : List Piece). kept ++ ps) (sym (nodes_from k ns less ∙ ap (λ (ps : List Piece). ps ++ node_pieces (k + 1) (drop (k + 1) ns)) (no_node k (get_or ns k 0) none))) ∙ are

  pub kept_push : (new : List Piece) → get_or ns k 0 ≢ 0 → new ≡ kept ++ node_piece k (get_or ns k 0) ∷ [] → new ++ node_pieces (k + 1) (drop (k + 1) ns) ≡ all
  kept_push new some pushed = ap (λ (xs : List Piece). xs ++ node_pieces (k + 1) (drop (k + 1) ns)) pushed ∙ append_assoc kept (node_piece k (get_or ns k 0) ∷ []) (node_pieces (k + 1) (drop (k + 1) ns))
      ∙ ap (λ (ps : List Piece). kept ++ ps) (sym (nodes_from k ns less ∙ ap (λ (ps : List Piece). ps ++ node_pieces (k + 1) (drop (k + 1) ns)) (one_node k (get_or ns k 0) some))) ∙ are

none_left : (k : ℕ) (ns : List ℕ) → length ns ≤ k → node_pieces k (drop k ns) ≡ []
unfolding node_pieces
none_left k ns past = ap (node_pieces k) (drop_of_length-le ns past)

pub kept_all : (k : ℕ) (ns : List ℕ) (kept all : List Piece) → length ns ≤ k → kept ++ node_pieces k (drop k ns) ≡ all → kept ≡ all
kept_all k ns kept all past are = sym (append-nil kept) ∙ ap (λ (ps : List Piece). kept ++ ps) (sym (none_left k ns past)) ∙ are

-- ---- as they are read again

-- of the nodes those below a number were read, and the pieces of the others are left
pub record AreReadTo (ns : List ℕ) (rest : List Piece) (k : ℕ) (left : List Piece) (nodes : List ℕ) : Type 0 where
  pub pieces : left ≡ node_pieces k (drop k ns) ++ rest
  pub read : (i : ℕ) → i < k → get_or nodes i 0 ≡ get_or ns i 0
  pub none : (i : ℕ) → k ≤ i → get_or nodes i 0 ≡ 0
  pub size : length nodes ≡ length ns

module _ (ns : List ℕ) (rest : List Piece) (k : ℕ) (left : List Piece) (nodes : List ℕ) (are : AreReadTo ns rest k left nodes) (less : k < length ns) where
  abbrev others : List Piece
  others = node_pieces (k + 1) (drop (k + 1) ns) ++ rest

  pub first_none : k < 255 → BeginsAnew rest → get_or ns k 0 ≡ 0 → BeginsWithout k left
  first_none small anew none = subst (BeginsWithout k) (sym (passed none)) (late_nodes k (k + 1) (drop (k + 1) ns) rest (omega arith) (anew_without k rest small anew))
    where
      passed : get_or ns k 0 ≡ 0 → left ≡ others
      passed none = are.pieces ∙ ap (λ (ps : List Piece). ps ++ rest) (nodes_from k ns less ∙ ap (λ (ps : List Piece). ps ++ node_pieces (k + 1) (drop (k + 1) ns)) (no_node k (get_or ns k 0) none))

  pub first_some : get_or ns k 0 ≢ 0 → left ≡ node_piece k (get_or ns k 0) ∷ others
  first_some some = are.pieces ∙ ap (λ (ps : List Piece). ps ++ rest) (nodes_from k ns less ∙ ap (λ (ps : List Piece). ps ++ node_pieces (k + 1) (drop (k + 1) ns)) (one_node k (get_or ns k 0) some))

  pub read_skip : get_or ns k 0 ≡ 0 → AreReadTo ns rest (k + 1) left nodes
  read_skip none = record {
    pieces = are.pieces ∙ ap (λ (ps : List Piece). ps ++ rest) (nodes_from k ns less ∙ ap (λ (ps : List Piece). ps ++ node_pieces (k + 1) (drop (k + 1) ns)) (no_node k (get_or ns k 0) none));
    read = λ i below. elim (cases_lt i k) [
      | inl before ↦ are.read i before
      | inr last ↦ let at : i ≡ k = omega arith in ap (λ (j : ℕ). get_or nodes j 0) at ∙ are.none k (omega arith) ∙ sym none ∙ ap (λ (j : ℕ). get_or ns j 0) (sym at)
    ];
    none = λ i past. are.none i (omega (arith, past));
    size = are.size;
  }

  pub read_one : (more : List Piece) (n : ℕ) → n ≡ get_or ns k 0 → more ≡ others → AreReadTo ns rest (k + 1) more (set nodes k n)
  read_one more n is others_are = record {
    pieces = others_are;
    read = λ i below. elim (cases_lt i k) [
      | inl before ↦ get_or-set_other nodes k i n 0 (λ same. absurd (omega (arith, same, before))) ∙ are.read i before
      | inr last ↦ let at : i ≡ k = omega arith in ap (λ (j : ℕ). get_or (set nodes k n) j 0) at ∙ get_or-set_same nodes k n 0 (omega (arith, are.size, less)) ∙ is ∙ ap (λ (j : ℕ). get_or ns j 0) (sym at)
    ];
    none = λ i past. get_or-set_other nodes k i n 0 (λ same. absurd (omega (arith, same, past))) ∙ are.none i (omega (arith, past));
    size = length-set nodes k n ∙ are.size;
  }

pub read_all : (ns : List ℕ) (rest : List Piece) (k : ℕ) (left : List Piece) (nodes : List ℕ) → AreReadTo ns rest k left nodes → length ns ≤ k → (nodes ≡ ns) × (left ≡ rest)
read_all ns rest k left nodes are past = (
  same_number_lists nodes ns are.size (λ i below. are.read i (omega (arith, are.size, below, past))),
  are.pieces ∙ ap (λ (ps : List Piece). ps ++ rest) (none_left k ns past),
)

no_zeros : (n i : ℕ) → ◌≡◌ {A = ℕ} (get_or (replicate n 0) i 0) 0
no_zeros zero i = refl
no_zeros (suc n) zero = refl
no_zeros (suc n) (suc i) = no_zeros n i

pub read_begin : (ns : List ℕ) (rest left : List Piece) → length ns ≡ node_pointers.count → left ≡ node_pieces 0 ns ++ rest → AreReadTo ns rest 0 left (replicate node_pointers.count 0)
read_begin ns rest left size is = record { pieces = is; read = λ i below. absurd (omega (arith, below)); none = λ i past. no_zeros node_pointers.count i; size = sym size }

-- ---- a size by its last three bytes

pub size_again : (n : ℕ) → n < 2 ^ 24 → from_be_bytes w64 (0 ∷ 0 ∷ 0 ∷ 0 ∷ 0 ∷ n / 65536 % 256 ∷ n / 256 % 256 ∷ n % 256 ∷ []) ≡ n
size_again n small = omega arith

-- ---- the head, and the first node

module _ (head : Piece) (left : List Piece) (root : Root) (rest : List Piece) (are : head ∷ left ≡ head_piece root ∷ node_pieces 0 root.nodes ++ rest) where
  pub head_is : head ≡ head_piece root
  head_is = cc

  pub head_rest : left ≡ node_pieces 0 root.nodes ++ rest
  head_rest = cc

pub head_fill : (head : Piece) (root : Root) → head ≡ head_piece root → get_or head.bytes 0 0 ≡ root.fill
head_fill head root is = ap (λ (p : Piece). get_or p.bytes 0 0) is

pub head_size : (head : Piece) (root : Root) → IsGoodRoot root → head ≡ head_piece root
    → from_be_bytes w64 (0 ∷ 0 ∷ 0 ∷ 0 ∷ 0 ∷ get_or head.bytes 1 0 ∷ get_or head.bytes 2 0 ∷ get_or head.bytes 3 0 ∷ []) ≡ root.size
head_size head root good is = ap (λ (p : Piece). from_be_bytes w64 (0 ∷ 0 ∷ 0 ∷ 0 ∷ 0 ∷ get_or p.bytes 1 0 ∷ get_or p.bytes 2 0 ∷ get_or p.bytes 3 0 ∷ [])) is ∙ size_again root.size (omega (arith, good.1.size.limit))

pub node_fits : (root : Root) → IsGoodRoot root → (k : ℕ) → k < length root.nodes → get_or root.nodes k 0 < 2 ^ 32
node_fits root good k less = All-get_or (λ n. n < 2 ^ 32) root.nodes k 0 less good.0.nodes

pub none_is : {A : Type 0} {o : Option A} → o ≡ None → IsSome o → ⊥
none_is {A} {o} is some = let t : false ≡ true = sym (ap is_some is) ∙ some in cc

pub some_is : {A : Type 0} {o : Option A} {x : A} → o ≡ Some x → o ≡ None → ⊥
some_is is none = cc
