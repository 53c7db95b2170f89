use Rattle.std.proofs.Common.{◌≡◌, ℕ, ◌+◌, ◌-◌, ◌*◌, ◌<◌, List, drop, take, refl, sym, ◌∙◌, ap, arith, zero-add}
use Rattle.std.specs.Int.{from_be_bytes, w32}
use Rattle.block_tree.proofs.Words.{get_or-map-range_with_len, leaf_pointers, number_at, pointer, pointers_of}
use Rattle.block_tree.proofs.Follows.{same_pointer}
use Rattle.block_tree.proofs.Trees.{end_is}
use Rattle.block_tree.proofs.follow.pointer_in.Goals as goal

-- one pointer of a block
pointer_at : (content : List ℕ) (k : ℕ) → k < leaf_pointers.count → number_at content k ≡ pointer leaf_pointers content k
unfolding pointers_of
pointer_at content k small = sym (get_or-map-range_with_len (λ (j : ℕ). number_at content (0 + j)) 0 leaf_pointers.count k k 0 small (omega arith) ∙ ap (number_at content) (zero-add k))

pub returns-clause-next : goal.returns-clause-next
returns-clause-next g c tells =
    let k = c.args.place in
    let content = c.follow_pointer.new.into in
    let four : 4 * k + 4 - 4 * k ≡ 4 = omega arith in
    same_pointer _ _ _ _ refl (c.u32_at.ensures.value ∙ ap (λ (n : ℕ). from_be_bytes w32 (take n (drop (4 * k) content))) four ∙ pointer_at content k c.requires
    ∙ ap (λ (b : List ℕ). pointer leaf_pointers b k) (c.in_ok-follow_pointer.ensures.content tells) ∙ sym (end_is (g.D.Disk.content c.args.disk.now) leaf_pointers c.args.pointer.block k c.if-pointer-eq0.false))
