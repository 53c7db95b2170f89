-- The device calls of one leaf put, one after another.
use Rattle.std.proofs.Common.{◌≡◌, ◌≢◌, ℕ, ◌/◌, ◌%◌, ◌^◌, ◌<◌, true, false, List, [], ◌∷◌, length, set, Ok, Some, refl, sym, ◌∙◌, ap, subst, eq-eqb, arith, if◌then◌else◌}
use Rattle.special_files.proofs.Words.{AreClaimed, BlockNo, Claims, Drafting, Enters, GetsDraftNode, Ghosts, Had, HasDraft, HasItsBlocks, Holds, Image, IsEntry, IsLeastFree, IsPlaced, Kept, Leaf, Leaves, Node, Place, Refused, Result, Root, SameEntries, DraftView, WritesDraftBlock, claimed_by, entry_in, entry_in-set, in_image, intended, is_free_in, is_fresh_leaf, is_fresh_node, is_meant, is_meant_for, is_owned_by, leaf_claims, leaf_pointers, pointer_to_node, not_map, opened_as, pointers_of, root_placed, taken_apart, with_entry, written_same, leaf_limit}
use Rattle.std.proofs.Math.ListN.{length-set}
use Rattle.special_files.proofs.Fresh.{small_image}
use Rattle.special_files.proofs.Meant.{free_is}
use Rattle.special_files.proofs.leaf.Puts.{LeafPut}
use Rattle.special_files.proofs.Amid.{IsAmid, amid_begins, claim_leaves, claimed, write_leaves, wrote}
use Rattle.special_files.proofs.leaf.PutLeaf.{HasBoth, IsReadFor, claimed_node, had_node, put_new, intended_meant, leaf_entry, node_entry}
use Rattle.special_files.proofs.PutStore.{the_draft}

not_root_leaf : (l : ℕ) → Some (Leaf l) ≢ Some Root
not_root_leaf l same = cc

pub not_root_node : (n : ℕ) → Some (Node n) ≢ Some Root
not_root_node n same = cc

module _ {D : Type 0} {g : Ghosts D} {d0 : D} {k0 : Kept} {was : Drafting} (v : DraftView g d0 k0 was) (d1 d2 : D) (k1 k2 : Kept) (leaves : List ℕ) (leaf : ℕ) (most : leaf < leaf_limit) where
  abbrev a : Image
  a = g.content d0

  -- the root block is a block of the volume, and not its first
  root_is : IsPlaced a v.id.block v.id.block Root
  root_is = root_placed a (length a) v.id v.object (v.store.account.holds.objects v.id v.object v.at)

  some : was.at ≢ 0
  some none = not_map v.id.block (taken_apart a v.graph v.store.account.holds v.id.block v.id.block root_is.taken) (omega (arith, none, v.opened.at))

  small : was.at < 2 ^ 32
  small = omega (arith, v.opened.at, in_image a v.graph v.store.account.holds v.id.block root_is.taken.is root_is.taken.here, small_image a v.graph v.store.account.holds)

  leaf_is : IsEntry (intended (Leaf leaf) was.at)
  leaf_is = leaf_entry leaf was.at most some small

  pub node_is : IsEntry (intended (Node (leaf / leaf_pointers.count)) was.at)
  node_is = node_entry (leaf / leaf_pointers.count) was.at (omega arith) some small

  pub mine : (p : Place) → is_owned_by is_meant v.id.block (Some (intended p was.at)) ≡ true
  mine p = eq-eqb v.id.block was.at v.opened.at

  pub amid0 : IsAmid g v.graph v.id d0 d0 k0
  amid0 = amid_begins g v.graph v.ds v.id v.object d0 k0 v.store v.at

  -- the leaf is claimed
  pub leaf_claim_leaves : (result : Result BlockNo Refused) → Enters g (intended (Leaf leaf) was.at) d0 d1 k0 k1 result → Leaves g d0 d1 (λ c. Holds c v.graph)
  leaf_claim_leaves result enters = claim_leaves g v.graph v.ds v.id v.object d0 k0 v.store v.at d0 d1 k0 k1 (intended (Leaf leaf) was.at) result amid0 enters leaf_is (not_root_leaf leaf)

  module _ (x : BlockNo) (enters : Enters g (intended (Leaf leaf) was.at) d0 d1 k0 k1 (Ok x)) where
    pub claim1 : IsAmid g v.graph v.id d0 d1 k1 × IsLeastFree a x.0 × (g.content d1 ≡ with_entry a x.0 (intended (Leaf leaf) was.at))
    claim1 = claimed g v.graph v.ds v.id v.object d0 k0 v.store v.at d0 d1 k0 k1 (intended (Leaf leaf) was.at) (Ok x) amid0 enters leaf_is (not_root_leaf leaf) x refl (mine (Leaf leaf))

    -- the node's block is got
    pub node_claim_leaves : (result : Result BlockNo Refused) → GetsDraftNode g (leaf / leaf_pointers.count) d1 d2 k1 k2 was result → Leaves g d0 d2 (λ c. Holds c v.graph)
    node_claim_leaves result (Had fresh same kept is) = subst (λ (d : D). Leaves g d0 d (λ c. Holds c v.graph)) (sym same) claim1.0.leaves
    node_claim_leaves result (Claims stale gets) = claim_leaves g v.graph v.ds v.id v.object d0 k0 v.store v.at d1 d2 k1 k2 (intended (Node (leaf / leaf_pointers.count)) was.at) result claim1.0 gets node_is (not_root_node (leaf / leaf_pointers.count))

    module _ (y : BlockNo) (gets : GetsDraftNode g (leaf / leaf_pointers.count) d1 d2 k1 k2 was (Ok y)) (is : IsReadFor a v.id was leaf leaves) where
      has : HasItsBlocks a v.id.block
      has = v.store.account.objects v.id v.object v.at

      draft : HasDraft a v.id (opened_as was v.draft)
      draft = the_draft a v.ds v.id was v.draft v.opened (v.store.account.drafts v.id v.object v.at)

      some_blocks : 0 < length a
      some_blocks = let was_x = free_is a x.0 claim1.1.free in omega (arith, in_image a v.graph v.store.account.holds x.0 was_x.0 was_x.1)

      abbrev Both : Image → Type 0
      Both i = HasBoth a v.graph v.store.account.holds v.id v.object v.at has was v.draft draft leaves leaf is some_blocks i x.0 y.0

      leaf_is' : IsEntry (intended (Leaf leaf) v.id.block)
      leaf_is' = subst (λ (r : ℕ). IsEntry (intended (Leaf leaf) r)) (sym v.opened.at) leaf_is

      node_is' : IsEntry (intended (Node (leaf / leaf_pointers.count)) v.id.block)
      node_is' = subst (λ (r : ℕ). IsEntry (intended (Node (leaf / leaf_pointers.count)) r)) (sym v.opened.at) node_is

      one : g.content d1 ≡ with_entry a x.0 (intended (Leaf leaf) v.id.block)
      one = claim1.2 ∙ ap (λ (r : ℕ). with_entry a x.0 (intended (Leaf leaf) r)) (sym v.opened.at)

      both : IsAmid g v.graph v.id d0 d2 k2 × Both (g.content d2)
      both = by gets
        where
          by : GetsDraftNode g (leaf / leaf_pointers.count) d1 d2 k1 k2 was (Ok y) → IsAmid g v.graph v.id d0 d2 k2 × Both (g.content d2)
          by (Had fresh same kept got) =
              let there : y.0 ≡ pointer_to_node was.root (leaf / leaf_pointers.count) = (let e : y ≡ record { 0 = pointer_to_node was.root (leaf / leaf_pointers.count) } = cc in ap (λ (b : BlockNo). b.0) e) in (
                subst (λ (d : D). IsAmid g v.graph v.id d0 d k2) (sym same) (subst (IsAmid g v.graph v.id d0 d1) (sym kept) claim1.0),
                had_node a v.graph v.store.account.holds v.id v.object v.at has was v.draft draft leaves leaf is some_blocks leaf_is' node_is' x.0 y.0 (g.content d2) claim1.1.free fresh there (ap g.content same ∙ one),
              )
          by (Claims stale enters2) =
              let claim2 = claimed g v.graph v.ds v.id v.object d0 k0 v.store v.at d1 d2 k1 k2 (intended (Node (leaf / leaf_pointers.count)) was.at) (Ok y) claim1.0 enters2 node_is (not_root_node (leaf / leaf_pointers.count)) y refl (mine (Node (leaf / leaf_pointers.count))) in
              let free : is_free_in (with_entry a x.0 (intended (Leaf leaf) v.id.block)) y.0 ≡ true = ap (λ (i : Image). is_free_in i y.0) (sym one) ∙ claim2.1.free in
              let content = claim2.2 ∙ ap (λ (i : Image). with_entry i y.0 (intended (Node (leaf / leaf_pointers.count)) was.at)) one
              ∙ ap (λ (r : ℕ). with_entry (with_entry a x.0 (intended (Leaf leaf) v.id.block)) y.0 (intended (Node (leaf / leaf_pointers.count)) r)) (sym v.opened.at) in (
                claim2.0,
                claimed_node a v.graph v.store.account.holds v.id v.object v.at has was v.draft draft leaves leaf is some_blocks leaf_is' node_is' x.0 y.0 (g.content d2) claim1.1.free
                    (subst (λ (i : Image). Holds i v.graph) one claim1.0.carries.holds) stale free content,
              )

      -- the leaf is written, and then the node
      module _ (d3 d4 : D) (content node : List ℕ) where
        x_meant : is_meant_for (g.content d2) v.id.block x.0 ≡ true
        x_meant = intended_meant (g.content d2) x.0 v.id.block (Leaf leaf) both.1.x_entry

        x_below : x.0 < length (g.content d2)
        x_below = omega (arith, both.1.x_below, both.1.size)

        pub leaf_write_leaves : (result : Result (Unit {0}) Refused) → WritesDraftBlock g x.0 content d2 d3 result → Leaves g d0 d3 (λ c. Holds c v.graph)
        leaf_write_leaves result writes = write_leaves g v.graph v.ds v.id v.object d0 k0 v.store v.at d2 d3 k2 x.0 content both.0 x_meant x_below writes.images

        module _ (leaf_writes : WritesDraftBlock g x.0 content d2 d3 (Ok tt)) where
          amid3 : IsAmid g v.graph v.id d0 d3 k2
          amid3 = wrote g v.graph v.ds v.id v.object d0 k0 v.store v.at d2 d3 k2 x.0 content both.0 x_meant x_below leaf_writes.images leaf_writes.written leaf_writes.told leaf_writes.calls.same

          y_meant : is_meant_for (g.content d3) v.id.block y.0 ≡ true
          y_meant = ap (λ (i : Image). is_meant_for i v.id.block y.0) leaf_writes.written ∙ ap (is_owned_by is_meant v.id.block) (entry_in-set (g.content d2) x.0 content y.0 both.1.x_map) ∙ both.1.y_meant

          y_below : y.0 < length (g.content d3)
          y_below = omega (arith, both.1.y_below, both.1.size, ap (length {A = List ℕ}) leaf_writes.written, length-set (g.content d2) x.0 content)

          pub node_write_leaves : (result : Result (Unit {0}) Refused) → WritesDraftBlock g y.0 node d3 d4 result → Leaves g d0 d4 (λ c. Holds c v.graph)
          node_write_leaves result writes = write_leaves g v.graph v.ds v.id v.object d0 k0 v.store v.at d3 d4 k2 y.0 node amid3 y_meant y_below writes.images

          module _ (writes : WritesDraftBlock g y.0 node d3 d4 (Ok tt)) where
            pub amid4 : IsAmid g v.graph v.id d0 d4 k2
            amid4 = wrote g v.graph v.ds v.id v.object d0 k0 v.store v.at d3 d4 k2 y.0 node amid3 y_meant y_below writes.images writes.written writes.told writes.calls.same

            pub run_puts : is_fresh_leaf was leaf ≡ false → pointers_of leaf_pointers node ≡ set leaves (leaf % leaf_pointers.count) x.0 → leaf % leaf_pointers.count < length leaves
                → LeafPut a (g.content d4) v.id (opened_as was v.draft) (record was.root { nodes = set was.root.nodes (leaf / leaf_pointers.count) y.0 }) leaf x.0 y.0 content
            run_puts stale pointers within =
                subst (λ (i : Image). LeafPut a i v.id (opened_as was v.draft) (record was.root { nodes = set was.root.nodes (leaf / leaf_pointers.count) y.0 }) leaf x.0 y.0 content) (sym (writes.written ∙ ap (λ (i : Image). set i y.0 node) leaf_writes.written))
                (put_new a v.graph v.store.account.holds v.id v.object v.at has was v.draft draft leaves leaf is some_blocks leaf_is' node_is' x.0 y.0 (g.content d2) claim1.1.free content node both.1 stale pointers within)

            -- the claims in their order
            same : SameEntries (g.content d2) (g.content d4)
            same m = written_same (g.content d3) (g.content d4) y.0 node both.1.y_map writes.written m ∙ written_same (g.content d2) (g.content d3) x.0 content both.1.x_map leaf_writes.written m

            node_claim : GetsDraftNode g (leaf / leaf_pointers.count) d1 d2 k1 k2 was (Ok y) → AreClaimed (if is_fresh_node was (leaf / leaf_pointers.count) then [] else intended (Node (leaf / leaf_pointers.count)) was.at ∷ []) (g.content d1) (g.content d4)
            node_claim (Had fresh old kept got) = rw fresh (λ m. same m ∙ ap (λ (d : D). entry_in (g.content d) m) old)
            node_claim (Claims stale enters2) =
                let claim2 = claimed g v.graph v.ds v.id v.object d0 k0 v.store v.at d1 d2 k1 k2 (intended (Node (leaf / leaf_pointers.count)) was.at) (Ok y) claim1.0 enters2 node_is (not_root_node (leaf / leaf_pointers.count)) y refl (mine (Node (leaf / leaf_pointers.count))) in
                rw stale (g.content d2, claimed_by _ (g.content d1) (g.content d2) y.0 node_is claim2.1 claim2.2, same)

            pub run_order : is_fresh_leaf was leaf ≡ false → AreClaimed (leaf_claims was.at was.leaves was.nodes leaf) a (g.content d4)
            run_order stale = rw stale (g.content d1, claimed_by _ a (g.content d1) x.0 leaf_is claim1.1 claim1.2, node_claim gets)
