-- One leaf that was absent, and its node, taken and written.
use Rattle.normal_files.proofs.Words.{◌≡◌, ◌≢◌, ℕ, ◌/◌, ◌%◌, ◌<◌, Bool, true, false, List, [], length, Ok, Some, refl, sym, ◌∙◌, ap, subst, get_or-set_other, get_or-set_same, arith, ◌^◌, Err, Result, both_ways, lt-ltb, le-leb, Image, block_at, Leaves, Ghosts, BlockNo, Leaf, Node, Refused, Trouble, Enters, IsLeastFree, Kept, allocated, IsEntry, MapEntry, Free, entry_in, is_free_entry, is_free_in, with_entry, block_at-with_entry, entry_in-set, entry_in-with_entry_other, entry_in-with_entry_same, length-with_entry, IsLoose, in_image, not_map, after_try, leaf_pointers, node_pointers, leaf_limit}
use Rattle.normal_files.specs.Steps.{WritesBlock, MayLeave}
use Rattle.normal_files.specs.Takes.{FreesNone, GetsNode, TakesLeaf, MayTake, Claims, Had}
use Rattle.normal_files.proofs.Taking.{claim_leaves, claimed, free_is, fresh_leaves, fresh_written, leaf_inner, loose, node_inner, entry_frees}
use Rattle.normal_files.specs.Ends.{is_damaged}
use Rattle.normal_files.proofs.Ending.{enters_sound, still_sound}
use Rattle.normal_files.specs.View.{Way}

-- the node's block is got
record GotNode (b c : Image) (owner n : ℕ) (held : Bool) (block y : ℕ) : Type 0 where
  pub size : length c ≡ length b
  pub kept : held ≡ true → y ≡ block
  pub least : held ≡ false → IsLeastFree b y
  pub entry : held ≡ false → entry_in c y ≡ Some (allocated (Node n) owner)
  pub rest : (m : ℕ) → (held ≡ false → m ≢ y) → entry_in c m ≡ entry_in b m
  pub contents : (m : ℕ) → m % 64 ≢ 0 → block_at c m ≡ block_at b m

pub leaf_entry : (l r : ℕ) → l < leaf_limit → r ≢ 0 → r < 2 ^ 32 → IsEntry (allocated (Leaf l) r)
leaf_entry l r below some small = record { in_table = rw (le-leb l 1048575 (omega arith), lt-ltb 0 r (omega (arith, some)), lt-ltb r (2 ^ 32) small) refl }

pub node_entry : (n r : ℕ) → n < node_pointers.count → r ≢ 0 → r < 2 ^ 32 → IsEntry (allocated (Node n) r)
node_entry n r below some small = record { in_table = rw (le-leb n 8191 (omega arith), lt-ltb 0 r (omega (arith, some)), lt-ltb r (2 ^ 32) small) refl }

module _ {D : Type 0} {g : Ghosts D} {r : ℕ} {w : Way g r} {offset : ℕ} {bytes : List ℕ} {d0 : D} {k0 : Kept} (may : MayTake w offset bytes d0 k0) {leaf : ℕ} (below : leaf < leaf_limit) (some : r ≢ 0) (small : r < 2 ^ 32) where
  abbrev a : Image
  a = g.content w.start

  leaf_is : IsEntry (allocated (Leaf leaf) r)
  leaf_is = leaf_entry leaf r below some small

  node_is : IsEntry (allocated (Node (leaf / leaf_pointers.count)) r)
  node_is = node_entry (leaf / leaf_pointers.count) r (omega (arith, below)) some small

  pub leaf_err : {d1 : D} {k1 : Kept} (e : Refused) → Enters g (allocated (Leaf leaf) r) d0 d1 k0 k1 (Err e) → Leaves g w.start d1 (MayLeave w offset bytes) × (is_damaged e ≡ false)
  leaf_err e enters = (claim_leaves may enters leaf_is (leaf_inner leaf), enters_sound enters may.amid.tells may.amid.only.maps may.amid.counts)

  module _ {d1 : D} {k1 : Kept} (x : BlockNo) (enters : Enters g (allocated (Leaf leaf) r) d0 d1 k0 k1 (Ok x)) where
    claim1 : MayTake w offset bytes d1 k1 × IsLeastFree (g.content d0) x.0 × (g.content d1 ≡ with_entry (g.content d0) x.0 (allocated (Leaf leaf) r))
    claim1 = claimed may enters leaf_is (leaf_inner leaf) x refl

    frees_more : FreesNone (g.content d0) (g.content d1)
    frees_more = subst (FreesNone (g.content d0)) (sym claim1.2) (entry_frees (g.content d0) x.0 (Leaf leaf) r claim1.1.free leaf_is)

    pub node_err : {held : Bool} {block : ℕ} {d2 : D} {k2 : Kept} (e : Refused) → GetsNode g (leaf / leaf_pointers.count) r held block d1 d2 k1 k2 (Err e) → Leaves g w.start d2 (MayLeave w offset bytes) × (is_damaged (after_try e) ≡ false)
    node_err e (Had h same kept is) = cc
    node_err e (Claims h gets) = (claim_leaves claim1.0 gets node_is (node_inner (leaf / leaf_pointers.count)), still_sound true e (enters_sound gets claim1.0.amid.tells claim1.0.amid.only.maps claim1.0.amid.counts))

    module _ {held : Bool} {block : ℕ} {d2 : D} {k2 : Kept} (y : BlockNo) (gets : GetsNode g (leaf / leaf_pointers.count) r held block d1 d2 k1 k2 (Ok y)) where
      got : MayTake w offset bytes d2 k2 × GotNode (g.content d1) (g.content d2) r (leaf / leaf_pointers.count) held block y.0
      got = by gets
        where
          by : GetsNode g (leaf / leaf_pointers.count) r held block d1 d2 k1 k2 (Ok y) → MayTake w offset bytes d2 k2 × GotNode (g.content d1) (g.content d2) r (leaf / leaf_pointers.count) held block y.0
          by (Had held_is same kept is) = (
            subst (λ (d : D). MayTake w offset bytes d k2) (sym same) (subst (MayTake w offset bytes d1) (sym kept) claim1.0),
            record {
              size = ap (λ (d : D). length (g.content d)) same;
              kept = λ _. (let e : y ≡ record { 0 = block } = cc in ap (λ (b : BlockNo). b.0) e);
              least = λ none. absurd (both_ways _ none held_is);
              entry = λ none. absurd (both_ways _ none held_is);
              rest = λ m _. ap (λ (d : D). entry_in (g.content d) m) same;
              contents = λ m _. ap (λ (d : D). block_at (g.content d) m) same;
            },
          )
          by (Claims none enters2) =
              let claim2 = claimed claim1.0 enters2 node_is (node_inner (leaf / leaf_pointers.count)) y refl in
              let was = free_is (g.content d1) y.0 claim2.1.free in
              let e = allocated (Node (leaf / leaf_pointers.count)) r in (
                claim2.0,
                record {
                  size = ap (length {A = List ℕ}) claim2.2 ∙ length-with_entry (g.content d1) y.0 e;
                  kept = λ held_is. absurd (both_ways _ none held_is);
                  least = λ _. claim2.1;
                  entry = λ _. ap (λ (i : Image). entry_in i y.0) claim2.2 ∙ entry_in-with_entry_same (g.content d1) y.0 e was.0 was.1 node_is;
                  rest = λ m other. ap (λ (i : Image). entry_in i m) claim2.2 ∙ entry_in-with_entry_other (g.content d1) y.0 e was.0 m was.1 (other none);
                  contents = λ m no_map. ap (λ (i : Image). block_at i m) claim2.2 ∙ block_at-with_entry (g.content d1) y.0 e m (λ same. no_map (omega (arith, same)));
                },
              )

      -- the leaf is written
      loose_x : IsLoose a w.graph x.0
      loose_x = loose w.has (g.content d0) may.frees x.0 claim1.1.free

      x_was : (e : MapEntry) × (entry_in (g.content d0) x.0 ≡ Some e) × (e.state ≡ Free)
      x_was = free_is (g.content d0) x.0 claim1.1.free

      x_entry1 : entry_in (g.content d1) x.0 ≡ Some (allocated (Leaf leaf) r)
      x_entry1 = ap (λ (i : Image). entry_in i x.0) claim1.2 ∙ entry_in-with_entry_same (g.content d0) x.0 (allocated (Leaf leaf) r) x_was.0 x_was.1 leaf_is

      x_entry2 : entry_in (g.content d2) x.0 ≡ Some (allocated (Leaf leaf) r)
      x_entry2 = got.1.rest x.0 (λ none same. both_ways _ (ap is_free_entry x_entry1) (ap (is_free_in (g.content d1)) same ∙ (got.1.least none).free)) ∙ x_entry1

      module _ {d3 : D} {content : List ℕ} {result : Result (Unit {0}) Trouble} (writes : WritesBlock g 1 x.0 content d2 d3 result) where
        pub write_leaves : Leaves g w.start d3 (MayLeave w offset bytes)
        write_leaves = fresh_leaves got.0 x.0 (Leaf leaf) content loose_x x_entry2 writes.images

        pub leaf_taken : result ≡ Ok tt → MayTake w offset bytes d3 k2 × TakesLeaf (g.content d0) (g.content d3) r leaf held block x.0 y.0 content
        leaf_taken done = (
          may3,
          record {
            least_x = claim1.1;
            least_y = λ none. subst (λ (i : Image). IsLeastFree i y.0) claim1.2 (got.1.least none);
            x_new = record { free = claim1.1.free; no_map = not_map x.0 loose_x.apart; below = omega (arith, below_in x.0 (may.frees x.0 claim1.1.free), size3); entry = entries3 x.0 ∙ x_entry2 };
            x_content = ap (λ (i : Image). block_at i x.0) on.written ∙ get_or-set_same (g.content d2) x.0 content [] (omega (arith, below_in x.0 (may.frees x.0 claim1.1.free), got.0.amid.only.size));
            y_new = λ none. record {
              free = frees_more y.0 (got.1.least none).free;
              no_map = not_map y.0 (loose w.has (g.content d1) claim1.0.frees y.0 (got.1.least none).free).apart;
              below = omega (arith, below_in y.0 (claim1.0.frees y.0 (got.1.least none).free), size3);
              entry = entries3 y.0 ∙ got.1.entry none;
            };
            y_kept = got.1.kept;
            keeps = record {
              size = omega (arith, size3, may.amid.only.size);
              entries = λ m taken. others m (taken_not_x m taken) (taken_not_y m taken);
              contents = λ m no taken. ap (λ (i : Image). block_at i m) on.written ∙ get_or-set_other (g.content d2) x.0 m content [] (taken_not_x m taken) ∙ got.1.contents m no
                  ∙ ap (λ (i : Image). block_at i m) claim1.2 ∙ block_at-with_entry (g.content d0) x.0 (allocated (Leaf leaf) r) m (λ same. no (omega (arith, same)));
            };
            rest = others;
          },
        )
          where
            on : WritesBlock g 1 x.0 content d2 d3 (Ok tt)
            on = subst (λ z. WritesBlock g 1 x.0 content d2 d3 z) done writes

            may3 : MayTake w offset bytes d3 k2
            may3 = fresh_written got.0 x.0 (Leaf leaf) content loose_x x_entry2 on.images on.written on.told on.calls.same

            entries3 : (m : ℕ) → entry_in (g.content d3) m ≡ entry_in (g.content d2) m
            entries3 m = ap (λ (i : Image). entry_in i m) on.written ∙ entry_in-set (g.content d2) x.0 content m (not_map x.0 loose_x.apart)

            size3 : length (g.content d3) ≡ length a
            size3 = may3.amid.only.size

            below_in : (m : ℕ) → is_free_in a m ≡ true → m < length a
            below_in m free = let was = free_is a m free in in_image a w.graph w.has.holds m was.0 was.1

            others : (m : ℕ) → m ≢ x.0 → (held ≡ false → m ≢ y.0) → entry_in (g.content d3) m ≡ entry_in (g.content d0) m
            others m not_x not_y = entries3 m ∙ got.1.rest m not_y ∙ ap (λ (i : Image). entry_in i m) claim1.2 ∙ entry_in-with_entry_other (g.content d0) x.0 (allocated (Leaf leaf) r) x_was.0 m x_was.1 not_x

            taken_not_x : (m : ℕ) → is_free_in (g.content d0) m ≡ false → m ≢ x.0
            taken_not_x m taken same = both_ways _ taken (ap (is_free_in (g.content d0)) same ∙ claim1.1.free)

            taken_not_y : (m : ℕ) → is_free_in (g.content d0) m ≡ false → held ≡ false → m ≢ y.0
            taken_not_y m taken none same = both_ways _ taken (ap (is_free_in (g.content d0)) same ∙ frees_more y.0 (got.1.least none).free)
