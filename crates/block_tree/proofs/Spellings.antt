-- One spelling a root, and one first bad byte a block.
use Rattle.std.proofs.Common.{◌≡◌, inl, inr, ℕ, ◌+◌, ◌<◌, List, [], take, drop, refl, sym, ◌∙◌, ap, arith, IfOk}
use Rattle.block_tree.proofs.Words.{BadRoot, Err, Fits, IsFirstBadByte, IsGoodRoot, IsNode, IsRootBlock, MatchResult, Node, Ok, Result, Root, cases_order, from_be_bytes, from_be_bytes-to_be_bytes_4, from_be_bytes-to_be_bytes_8, leaf_pointers, node_pointers, node_spelling, pointers_of, root_spelling, take-take, w32, w64}
use Rattle.block_tree.proofs.Numbers.{numbers_back}
use Rattle.block_tree.proofs.Fields.{same_kind}

pub nodes_of : (root : Root) → Fits root → root.nodes ≡ pointers_of node_pointers (root_spelling root)
unfolding pointers_of root_spelling
nodes_of root fits = numbers_back (take 32 (root_spelling root)) root.nodes 8 node_pointers.count refl fits.count fits.nodes

same_root : (r s : Root) → r.kind ≡ s.kind → r.fill ≡ s.fill → r.word ≡ s.word → r.size ≡ s.size → r.nodes ≡ s.nodes → r ≡ s
same_root r s kind fill word size nodes = λ i. record { kind = kind i; fill = fill i; word = word i; size = size i; nodes = nodes i }

pub one_root : (r s : Root) → IsGoodRoot r → IsGoodRoot s → root_spelling r ≡ root_spelling s → r ≡ s
unfolding root_spelling
one_root r s gr gs e = same_root r s (same_kind r.kind s.kind (let f = e in cc)) (let f = e in cc)
    (sym (from_be_bytes-to_be_bytes_4 r.word gr.0.word) ∙ ap (λ (l : List ℕ). from_be_bytes w32 (take 4 (drop 4 l))) e ∙ from_be_bytes-to_be_bytes_4 s.word gs.0.word)
    (sym (from_be_bytes-to_be_bytes_8 r.size (omega (arith, gr.1.size.limit))) ∙ ap (λ (l : List ℕ). from_be_bytes w64 (take 8 (drop 8 l))) e ∙ from_be_bytes-to_be_bytes_8 s.size (omega (arith, gs.1.size.limit)))
    (nodes_of r gr.0 ∙ ap (pointers_of node_pointers) e ∙ sym (nodes_of s gs.0))

one_byte : (block : List ℕ) (a b : ℕ) → IsFirstBadByte block a → IsFirstBadByte block b → a ≡ b
one_byte block a b bad bad' = elim (cases_order a b) [
  | inl same ↦ same
  | inr (inl less) ↦ absurd (clash a b bad bad' (omega arith))
  | inr (inr more) ↦ absurd (clash b a bad' bad (omega arith))
]
  where
    clash : (m n : ℕ) → IsFirstBadByte block m → IsFirstBadByte block n → m < n → ⊥
    clash m n here there less =
        let longer = take-take (m + 1) n (root_spelling there.before.0) (omega arith) in
        let short = take-take (m + 1) n block (omega arith) in
        here.here there.before.0 there.before.1 (sym longer ∙ ap (take (m + 1)) there.before.2 ∙ short)

none_bad : (block : List ℕ) (root : Root) (n : ℕ) → IsRootBlock block root → IsFirstBadByte block n → ⊥
none_bad block root n is bad = bad.here root is.good (ap (take (n + 1)) (sym is.spelled))

pub leaves_of : (node : Node) → IsNode node → node.leaves ≡ pointers_of leaf_pointers (node_spelling node)
unfolding pointers_of
leaves_of node is = numbers_back [] node.leaves 0 leaf_pointers.count refl is.count is.fit

-- ---- what reading gives

pub each_root : (block : List ℕ) (r : Result Root BadRoot) → MatchResult r (IsRootBlock block) (λ e. IsFirstBadByte block e.byte) → (root : Root) → IsRootBlock block root → r ≡ Ok root
each_root block (Ok s) is root this = ap Ok (one_root s root is.good this.good (sym is.spelled ∙ this.spelled))
each_root block (Err e) is root this = absurd (none_bad block root e.byte this is)

pub each_byte : (block : List ℕ) (r : Result Root BadRoot) → MatchResult r (IsRootBlock block) (λ e. IsFirstBadByte block e.byte) → (byte : ℕ) → IsFirstBadByte block byte
    → r ≡ Err (record { byte = byte })
each_byte block (Ok s) is byte bad = absurd (none_bad block s byte is bad)
each_byte block (Err e) is byte bad = ap (λ (n : ℕ). Err (record { byte = n })) (one_byte block e.byte byte is bad)

pub read_nodes : (block : List ℕ) (r : Result Root BadRoot) → MatchResult r (IsRootBlock block) (λ e. IsFirstBadByte block e.byte)
    → IfOk r (λ root. root.nodes ≡ pointers_of node_pointers block)
read_nodes block (Ok s) is = nodes_of s is.good.0 ∙ ap (pointers_of node_pointers) (sym is.spelled)
read_nodes block (Err e) is = tt
