-- One item of the list, as the roots that were kept are copied.
use Rattle.std.proofs.Common.{◌≡◌, ◌≢◌, ℕ, suc, ◌+◌, ◌<◌, List, ◌++◌, length, drop, get_or, Some, sym, ◌∙◌, ap, arith}
use Rattle.cfs_recover.proofs.Words.{AreKeptFor, Copied, Found, Graph, Image, IsNamedCopy, MapEntry, Walked, all_pieces, copies_before, drop-cons, get_or_from_slice_get, pieces_of, slice_get, slice_get-get_or, slice_get_within, source}
use Rattle.cfs_recover.proofs.Copyings.{before_more, none_copied, one_copied}

pieces_next : (copies : List Copied) (n : ℕ) (c : Copied) → slice_get copies n ≡ Some c → all_pieces (drop n copies) ≡ pieces_of c.root ++ all_pieces (drop (n + 1) copies)
pieces_next copies n c here =
    let next : suc n ≡ n + 1 = omega arith in
    ap all_pieces (drop-cons copies n c (slice_get_within copies n c here)) ∙ (λ i. pieces_of (get_or_from_slice_get copies n c c here i).root ++ all_pieces (drop (next i) copies))

module _ (a : Image) (graph : Graph) (maps : List (List MapEntry)) (w : Walked) (copies : List Copied) (are : AreKeptFor a graph maps w copies) (k : ℕ) (x : Found) (at : slice_get w.walk.found.items k ≡ Some x) where
  abbrev found : List Found
  found = w.walk.found.items

  pub own_next : source a x.block ≡ x.block → copies_before a found (k + 1) ≡ copies_before a found k
  own_next own = omega (arith, before_more a found k x at, none_copied a x own)

  pub record Next : Type 0 where
    pub copy : Copied
    pub here : slice_get copies (copies_before a found k) ≡ Some copy
    pub block : copy.block ≡ x.block
    pub named : IsNamedCopy w copy
    pub pieces : all_pieces (drop (copies_before a found k) copies) ≡ pieces_of copy.root ++ all_pieces (drop (copies_before a found k + 1) copies)
    pub more : copies_before a found (k + 1) ≡ copies_before a found k + 1

  pub copy_next : source a x.block ≢ x.block → Next
  copy_next other =
      let c = are.kept.placed k x (slice_get_within found k x at) at other in
      record {
        copy = c.0;
        here = c.1;
        block = c.2;
        named = are.named (copies_before a found k) c.0 c.1;
        pieces = pieces_next copies (copies_before a found k) c.0 c.1;
        more = omega (arith, before_more a found k x at, one_copied a x other);
      }

-- what stands there in the list
pub item_at : (items list : List Found) (k : ℕ) (d : Found) → items ≡ list → k < length items → slice_get list k ≡ Some (get_or items k d)
item_at items list k d same inside = ap (λ (xs : List Found). slice_get xs k) (sym same) ∙ slice_get-get_or items k d inside
