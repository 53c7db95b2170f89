-- The root of an object that is made with a commit.
use Rattle.std.proofs.Common.{◌≡◌, ◌≢◌, inl, inr, ⊎_elim, ℕ, true, false, List, Option, Some, None, refl, sym, ◌∙◌, ap, subst, eq-eqb}
use Rattle.special_files.proofs.Words.{Accounts, ChangesOnly, Drafts, Graph, HasItsBlocks, Image, IntendAllocate, IsBareRoot, IsEntered, IsMadeRoot, IsOpenTo, IsPlaced, IsRootBlock, Leaf, Span, MapEntry, Node, Opened, Place, Puid, Root, RootsOwnThemselves, SameAt, ShadowRoot, and_from, and_parts, below_none, block_at, both_ways, created_if, entry_in, false_from_ne_true, free_unowned, had_not_meant, is_committed, is_fixed, is_had, is_leaving, is_made, is_meant, is_meant_for, is_owned_by, is_placed, is_root_place, is_taken, node_pointers, none-some, of_draft, of_taken, owner_is, owner_of, part_at, pointers_of, root_owner, same_Some}
use Rattle.block_tree.specs.declared.root.Root as roots
use Rattle.vol_owners.proofs.Entries.{root_placed}
use Rattle.intentions.proofs.Turned.{option_is}
use Rattle.special_files.proofs.commit.CommitRoles.{block_stands, had_not_leaving}
use Rattle.special_files.proofs.Meant.{meant_is}

root_is : (p : Option Place) → is_root_place p ≡ true → p ≡ Some Root
root_is None q = cc
root_is (Some Root) q = refl
root_is (Some ShadowRoot) q = cc
root_is (Some (Node k)) q = cc
root_is (Some (Leaf k)) q = cc
root_is (Some (Span k)) q = cc

-- the entry of a root that is meant for itself
pub record IsNewRoot (a : Image) (c : ℕ) : Type 0 where
  pub at : IsPlaced a c c Root
  pub state : at.taken.is.state ≡ IntendAllocate

module _ (a : Image) (own : RootsOwnThemselves a) (c : ℕ) (made : IsMadeRoot a c) where
  -- it is meant for itself
  pub made_meant : is_meant_for a c c ≡ true
  made_meant = and_from _ _ (root_placed is_meant (entry_in a c) made.entered) (eq-eqb _ _ (sym (root_owner a own is_meant c made.entered)))

  pub made_root : IsNewRoot a c
  made_root =
      let m = meant_is a c c made_meant in
      record {
        at = record { taken = m.taken; place_is = root_is m.taken.is.place (and_parts (is_meant m.taken.is.state) (is_root_place m.taken.is.place) (sym (ap is_made m.taken.here) ∙ made.entered)).1 };
        state = m.state;
      }

  -- no root of an object that is there
  pub made_apart : (r : ℕ) → HasItsBlocks a r → c ≢ r
  made_apart r has same =
      both_ways _ (had_not_meant r (entry_in a r) (has.each r (inl refl))) (root_placed is_meant (entry_in a r) (subst (λ (n : ℕ). is_made (entry_in a n) ≡ true) same made.entered))

  -- a step of a draft of another object leaves it as it is
  module _ (b : Image) (r : ℕ) (other : c ≢ r) (only : ChangesOnly (λ e. of_draft r e) a b) where
    open_owner : (n : ℕ) (entry : Option MapEntry) → is_owned_by is_taken n entry ≡ true → IsOpenTo (λ e. of_draft r e) entry → n ≡ r
    open_owner n entry is (inl free) = absurd (both_ways _ (free_unowned is_taken refl n entry free) is)
    open_owner n entry is (inr two) = owner_is is_taken n entry is ∙ sym (same_Some _ _ (option_is (Some r) (owner_of entry) (and_parts (is_placed is_meant entry) _ two.1).1))

    taken : is_owned_by is_taken c (entry_in a c) ≡ true
    taken = of_taken is_meant refl c (entry_in a c) made_meant

    pub made_kept : entry_in b c ≡ entry_in a c
    made_kept = ⊎_elim (λ same. same) (λ two. absurd (other (open_owner c (entry_in a c) taken two.0))) (only.entries c)

    pub still_made : IsMadeRoot b c
    still_made = record {
      entered = ap is_made made_kept ∙ made.entered;
      alone = λ n of_c. ⊎_elim (λ same. made.alone n (ap (is_owned_by is_taken c) (sym same) ∙ of_c)) (λ two. absurd (other (open_owner c (entry_in b n) of_c two.1))) (only.entries n);
    }

    pub content_kept : is_fixed c ≡ false → block_at b c ≡ block_at a c
    content_kept loose = ⊎_elim (λ same. same) (λ open_to. absurd (other (open_owner c (entry_in a c) taken open_to))) (only.contents c loose)

-- the root that an object's draft makes
pub draft_made : (a : Image) (g : Graph) (ds : Drafts) → Accounts a g ds → (id : Puid) (d : Opened) → ds id ≡ Some d → (c : ℕ) → d.created ≡ Some c → IsMadeRoot a c
draft_made a g ds had id d alone c is = had.made c (record { id = id; makes = ap created_if alone ∙ is })

-- ---- once it is there

module _ (a b : Image) (id : Puid) (root : roots.Root) (bare : IsBareRoot a id root) where
  pub bare_kept : SameAt a b id.block → IsBareRoot b id root
  bare_kept same = record {
    part = same.part ∙ bare.part;
    spelled = subst (λ (x : List ℕ). IsRootBlock x root) (sym same.content) bare.spelled;
    word = bare.word;
    no_node = ap (pointers_of node_pointers) same.content ∙ bare.no_node;
  }

  module _ (is : IsEntered a b id.block) where
    now : IsBareRoot b id root
    now = bare_kept is.same

    no_bit : is_committed (part_at b id.block) ≡ false
    no_bit = ap is_committed now.part

    pub bare_has : HasItsBlocks b id.block
    bare_has = record {
      no_bit = no_bit;
      each = λ n block. ⊎_elim (λ root_is. subst (λ (k : ℕ). is_owned_by is_had id.block (entry_in b k) ≡ true) (sym root_is) is.had)
          (λ at. absurd (none-some at.held (sym (below_none b (block_at b id.block) node_pointers.count now.no_node at.path) ∙ at.there))) (block_stands b id.block no_bit n block);
      no_other = λ n had. inl (is.alone n (of_taken is_had refl id.block (entry_in b n) had));
      none_leaves = λ n. false_from_ne_true _ (λ leaves. both_ways _ (had_not_leaving id.block (entry_in b n) (of_root n (of_taken is_leaving refl id.block (entry_in b n) leaves))) leaves);
    }
      where
        of_root : (n : ℕ) → is_owned_by is_taken id.block (entry_in b n) ≡ true → is_owned_by is_had id.block (entry_in b n) ≡ true
        of_root n of_c = subst (λ (k : ℕ). is_owned_by is_had id.block (entry_in b k) ≡ true) (sym (is.alone n of_c)) is.had

    pub bare_unmeant : (n : ℕ) → is_meant_for b id.block n ≡ false
    bare_unmeant n = false_from_ne_true _ (λ meant.
        let had = subst (λ (k : ℕ). is_owned_by is_had id.block (entry_in b k) ≡ true) (sym (is.alone n (of_taken is_meant refl id.block (entry_in b n) meant))) is.had in
        both_ways _ (had_not_meant id.block (entry_in b n) had) (and_parts _ _ meant).0)
