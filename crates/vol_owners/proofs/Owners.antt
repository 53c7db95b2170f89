-- What becomes of the owners whose blocks a change touches, and what it keeps of all others.
use Rattle.std.proofs.Common.{◌≡◌, ◌≢◌, ◌⊎◌, inl, inr, ℕ, List, length, Bool, true, false, ◌&&◌, ◌==◌, Option, Some, None, refl, sym, ◌∙◌, ap, subst}
use Rattle.vol_owners.proofs.Words.{Accounts, Allocated, BlockState, ChangesOnly, Drafts, Free, Graph, HasDraftIf, HasItsBlocks, Holds, Image, IntendAllocate, IntendDeallocate, IsMadeBy, IsMadeRoot, IsOpenTo, MapEntry, Misses, Object, Opened, OwnsNothing, Place, Puid, Root, and_parts, both_ways, cases_Bool, entry_in, false_from_ne_true, has_number, is_fixed, is_free_entry, is_had, is_leaving, is_made, is_meant, is_owned_by, is_placed, is_root, is_root_place, is_some, is_taken, is_there, object_at, object_there, owner_of, root_placed}
use Rattle.vol_owners.proofs.Entries as entries
use Rattle.vol_owners.proofs.Entries.{free_unplaced, had_not_meant, made_taken, of_its_owner, owner_is, root_owner, root_real}
use Rattle.vol_owners.proofs.Kept.{blocks_kept, draft_kept_if, entry_kept}

-- ---- an object as an owner

-- its root stands, and no draft makes it
pub record IsObjectOf (b : Image) (es : Drafts) (r : ℕ) : Type 0 where
  pub root : is_root is_taken (entry_in b r) ≡ true
  pub not_made : is_made (entry_in b r) ≡ false
  pub not_created : IsMadeBy es r → ⊥

-- this root is made now, or nothing is left of it
abbrev pub MakesOrNot : Image → ℕ → Drafts → Type 0
MakesOrNot b c es = (IsMadeRoot b c × IsMadeBy es c) ⊎ (OwnsNothing b c × (IsMadeBy es c → ⊥))

abbrev pub Becomes : Image → Drafts → ℕ → Type 0
Becomes b es r = IsObjectOf b es r ⊎ MakesOrNot b r es

had_not_made : (image : Image) (r : ℕ) → HasItsBlocks image r → is_made (entry_in image r) ≡ false
had_not_made image r has = false_from_ne_true _ (λ made. both_ways _ (had_not_meant r (entry_in image r) (has.each r (inl refl))) (entries.root_placed is_meant (entry_in image r) made))

-- no draft makes what is an object
pub not_created : (a : Image) (g : Graph) (ds : Drafts) → Accounts a g ds → (id : Puid) (o : Object) → object_at g id ≡ Some o → IsMadeBy ds id.block → ⊥
not_created a g ds had id o at made = both_ways _ (had_not_made a id.block (had.objects id o at)) (had.made id.block made).entered

-- and there is no draft of what is none
pub no_draft : (a : Image) (g : Graph) (ds : Drafts) → Accounts a g ds → (x : Puid) → ((o : Object) → object_at g x ≡ Some o → ⊥) → ds x ≡ None
no_draft a g ds had x gone = by (ds x) refl
  where
    by : (d : Option Opened) → ds x ≡ d → d ≡ None
    by None is = refl
    by (Some d) is = let there = object_there g x (had.on_objects x d is) in absurd (gone there.0 there.1)

pub object_stands : (b : Image) (h : Graph) → Holds b h → (id : Puid) (o : Object) → object_at h id ≡ Some o → HasItsBlocks b id.block → (es : Drafts) → (IsMadeBy es id.block → ⊥) → IsObjectOf b es id.block
object_stands b h holds id o at has es none =
    let root = root_placed b (length b) id o (holds.objects id o at) in
    record {
      root = rw root.taken.here (at_root root.taken.is.state root.taken.is.place root.taken.taken root.place_is);
      not_made = had_not_made b id.block has;
      not_created = none;
    }
  where
    at_root : (s : BlockState) (p : Option Place) → s ≢ Free → p ≡ Some Root → (is_taken s && is_root_place p) ≡ true
    at_root s None real is = cc
    at_root Free (Some p) real is = absurd (real refl)
    at_root Allocated (Some p) real is = ap is_root_place is
    at_root IntendAllocate (Some p) real is = ap is_root_place is
    at_root IntendDeallocate (Some p) real is = ap is_root_place is

-- ---- what a test of owners misses

-- blocks in such a state, of one of these owners
pub list_misses : (s test : BlockState → Bool) (rs : List ℕ) (x : ℕ) → has_number x rs ≡ false → Misses test (λ entry. is_placed s entry && has_number (owner_of entry) rs) x
list_misses s test rs x none entry h =
    false_from_ne_true _ (λ is. both_ways _ none (ap (λ (r : ℕ). has_number r rs) (owner_is test x entry is) ∙ (and_parts (is_placed s entry) (has_number (owner_of entry) rs) h).1))

-- what is meant is neither had nor leaving
pub drafts_miss : (test : BlockState → Bool) → test IntendAllocate ≡ false → (rs : List ℕ) (x : ℕ) → Misses test (λ entry. is_placed is_meant entry && has_number (owner_of entry) rs) x
drafts_miss test none rs x None h = refl
drafts_miss test none rs x (Some e) h = false_from_ne_true _ (λ is.
    at e.state (and_parts (is_meant e.state) (is_some e.place) (and_parts _ (has_number e.owner rs) h).0).0 (and_parts (test e.state) (is_some e.place) (and_parts _ (x == e.owner) is).0).0)
  where
    at : (s : BlockState) → is_meant s ≡ true → test s ≡ true → ⊥
    at Free m t = cc
    at Allocated m t = cc
    at IntendAllocate m t = both_ways _ none t
    at IntendDeallocate m t = cc

-- ---- the accounts of what a change leaves

module _ (T : Option MapEntry → Bool) (a b : Image) (g : Graph) (ds : Drafts) (had : Accounts a g ds) (changes : ChangesOnly T a b) where
  -- an object that is missed keeps its blocks and its draft
  pub object_goes_on : (x : Puid) (o : Object) → object_at g x ≡ Some o → Misses is_had T x.block → Misses is_leaving T x.block → Misses is_meant T x.block → HasItsBlocks b x.block × HasDraftIf b x (ds x)
  object_goes_on x o at no_had no_leaving no_meant =
      (blocks_kept T a b g ds had changes x o at no_had no_leaving, draft_kept_if T a b g ds had changes x o at no_had no_meant (ds x) (had.drafts x o at))

  pub placed_on : (n : ℕ) (e : MapEntry) → entry_in b n ≡ Some e → is_fixed n ≡ false → is_taken e.state ≡ true → is_placed is_taken (Some e) ≡ true
  placed_on n e is free taken = elim (changes.entries n) [ inl same ↦ had.placed n e (sym same ∙ is) free taken | inr both ↦ opened (subst (IsOpenTo T) is both.1) ]
    where
      not_free : (s : BlockState) → is_taken s ≡ true → is_free_entry (Some (record e { state = s })) ≡ true → ⊥
      not_free Free t q = cc
      not_free Allocated t q = cc
      not_free IntendAllocate t q = cc
      not_free IntendDeallocate t q = cc

      opened : IsOpenTo T (Some e) → is_placed is_taken (Some e) ≡ true
      opened (inl q) = absurd (not_free e.state taken q)
      opened (inr two) = two.0

  module _ (mine : ℕ → Bool) (is_mine : (entry : Option MapEntry) → T entry ≡ true → mine (owner_of entry) ≡ true) (es : Drafts)
      (becomes : (r : ℕ) → mine r ≡ true → Becomes b es r) (others : (n : ℕ) → mine n ≡ false → (IsMadeBy es n → IsMadeBy ds n) × (IsMadeBy ds n → IsMadeBy es n)) where
    -- what is taken and open is of these owners
    open_mine : (entry : Option MapEntry) → is_placed is_taken entry ≡ true → IsOpenTo T entry → mine (owner_of entry) ≡ true
    open_mine entry placed (inl free) = absurd (both_ways _ (free_unplaced is_taken refl entry free) placed)
    open_mine entry placed (inr two) = is_mine entry two.1

    -- the root of another owner stays
    root_kept : (q : ℕ) → mine q ≡ false → is_root is_taken (entry_in a q) ≡ true → entry_in b q ≡ entry_in a q
    root_kept q other root = entry_kept T a b g ds had changes q (λ open_to.
        both_ways _ other (ap mine (sym (root_owner a had.holds.own is_taken q root)) ∙ open_mine (entry_in a q) (entries.root_placed is_taken (entry_in a q) root) open_to))

    rooted_on : (n : ℕ) → is_placed is_taken (entry_in b n) ≡ true → is_root is_taken (entry_in b (owner_of (entry_in b n))) ≡ true
    rooted_on n placed = elim (cases_Bool (mine (owner_of (entry_in b n)))) [
      | inl is ↦ elim (becomes (owner_of (entry_in b n)) is) [
        | inl object ↦ object.root
        | inr (inl made) ↦ root_real is_meant refl (entry_in b (owner_of (entry_in b n))) made.0.entered
        | inr (inr none) ↦ absurd (both_ways _ (none.0 n) (of_its_owner is_taken (entry_in b n) placed))
      ]
      | inr other ↦ elim (changes.entries n) [
        | inl same ↦
            let before : is_root is_taken (entry_in a (owner_of (entry_in b n))) ≡ true =
            subst (λ (q : ℕ). is_root is_taken (entry_in a q) ≡ true) (ap owner_of (sym same)) (had.rooted n (ap (is_placed is_taken) (sym same) ∙ placed)) in
            ap (is_root is_taken) (root_kept (owner_of (entry_in b n)) other before) ∙ before
        | inr both ↦ absurd (both_ways _ other (open_mine (entry_in b n) placed both.1))
      ]
    ]

    made_on : (c : ℕ) → IsMadeBy es c → IsMadeRoot b c
    made_on c there = elim (cases_Bool (mine c)) [
      | inl is ↦ elim (becomes c is) [ inl object ↦ absurd (object.not_created there) | inr (inl made) ↦ made.0 | inr (inr none) ↦ absurd (none.1 there) ]
      | inr other ↦
          let was = had.made c ((others c other).0 there) in
          record {
            entered = ap is_made (root_kept c other (root_real is_meant refl (entry_in a c) was.entered)) ∙ was.entered;
            alone = λ n of_c. elim (changes.entries n) [
              | inl same ↦ was.alone n (ap (is_owned_by is_taken c) (sym same) ∙ of_c)
              | inr both ↦ absurd (both_ways _ other (ap mine (owner_is is_taken c (entry_in b n) of_c) ∙ open_mine (entry_in b n) (and_parts (is_placed is_taken (entry_in b n)) (c == owner_of (entry_in b n)) of_c).0 both.1))
            ];
          }
    ]

    made_by_on : (n : ℕ) → is_made (entry_in b n) ≡ true → IsMadeBy es n
    made_by_on n made =
        let taken = made_taken b changes.own n made in
        elim (cases_Bool (mine n)) [
          | inl is ↦ elim (becomes n is) [ inl object ↦ absurd (both_ways _ object.not_made made) | inr (inl now) ↦ now.1 | inr (inr none) ↦ absurd (both_ways _ (none.0 n) taken) ]
          | inr other ↦ elim (changes.entries n) [
            | inl same ↦ (others n other).1 (had.made_by n (ap is_made (sym same) ∙ made))
            | inr both ↦ absurd (both_ways _ other (ap mine (owner_is is_taken n (entry_in b n) taken) ∙ open_mine (entry_in b n) (and_parts (is_placed is_taken (entry_in b n)) (n == owner_of (entry_in b n)) taken).0 both.1))
          ]
        ]

    pub accounts_go_on : (h : Graph) → Holds b h → ((x : Puid) (o : Object) → object_at h x ≡ Some o → HasItsBlocks b x.block × HasDraftIf b x (es x))
        → ((c : ℕ) (x y : IsMadeBy es c) → x.id ≡ y.id) → ((x : Puid) (d : Opened) → es x ≡ Some d → is_there h x ≡ true) → Accounts b h es
    accounts_go_on h holds each once on = record {
      holds = holds;
      placed = placed_on;
      rooted = rooted_on;
      objects = λ x o at. (each x o at).0;
      drafts = λ x o at. (each x o at).1;
      on_objects = on;
      made = made_on;
      made_by = made_by_on;
      made_once = once;
    }
