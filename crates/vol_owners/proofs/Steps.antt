-- Each step of the store keeps the accounts.
use Rattle.std.proofs.Common.{◌≡◌, ◌≢◌, inl, inr, ℕ, List, [], ◌∷◌, length, Bool, true, false, cond, not, ◌==◌, Option, Some, None, refl, sym, ◌∙◌, ap, subst}
use Rattle.vol_owners.proofs.Words.{Accounts, ChangesOnly, Drafts, Free, Graph, HasDraftIf, HasItsBlocks, Holds, Image, BlockState, IsMadeBy, IsMadeRoot, IsOpenTo, MapEntry, Misses, Object, Opened, OwnsNothing, Puid, ReadsAs, Sweeps, and_parts, both_ways, created_if, entry_in, eqb-true, false_from_ne_true, frames_hold, has_block, has_number, hold_fewer, is_among, is_free_in, is_had, is_leaving, is_made, is_meant, is_meant_for, is_owned_by, is_placed, is_stray, is_taken, is_there, ne_eqb, not-true, object_at, object_at-with_object, object_at-without, object_put, of_draft, of_drafts, of_owner, of_owners, or_cases, or_parts, other_is, others, owner_of, same_block, same_puid, same_puid_is, same_puid_itself, sight, still_there, there_from, with_draft_if, with_object, without}
use Rattle.vol_owners.proofs.Drafts.{Remakes, each_draft, made_once_with, makes_new, makes_none, no_longer_made, others_made, same_makes, still_on, with_here, with_others, with_same}
use Rattle.vol_owners.proofs.Entries.{free_unowned, made_not_free, owner_is}
use Rattle.vol_owners.proofs.Keys.{block_there, each_put, object_at_put}
use Rattle.vol_owners.proofs.Kept.{blocks_kept, entry_kept, frames_others}
use Rattle.vol_owners.proofs.Owners.{Becomes, MakesOrNot, accounts_go_on, drafts_miss, list_misses, no_draft, not_created, object_goes_on, object_stands, placed_on}

-- ---- other objects

-- objects of an image have root blocks of their own
other_block : (a : Image) (g : Graph) → Holds a g → (id x : Puid) (o p : Object) → object_at g id ≡ Some o → object_at g x ≡ Some p → same_puid x id ≡ false → (id.block == x.block) ≡ false
other_block a g holds id x o p at there apart = ne_eqb id.block x.block (λ same.
    let one = same_block a (length a) x id p o (holds.objects x p there) (holds.objects id o at) (sym same) in
    both_ways _ apart (subst (λ (y : Puid). same_puid y id ≡ true) (sym one) (same_puid_itself id)))

-- of these numbers there is one
the_one : (n c : ℕ) → has_number n (c ∷ []) ≡ true → c ≡ n
the_one n c h = elim (or_cases (c == n) false h) [ inl is ↦ eqb-true c n is | inr never ↦ cc ]

none_but : (n c : ℕ) → c ≢ n → has_number n (c ∷ []) ≡ false
none_but n c apart = rw (ne_eqb c n apart) refl

none_more : (n c : ℕ) (cs : List ℕ) → (c == n) ≡ false → has_number n cs ≡ false → has_number n (c ∷ cs) ≡ false
none_more n c cs one more = rw (one, more) refl

-- what a draft makes is no object yet
made_apart : (a : Image) (g : Graph) (ds : Drafts) → Accounts a g ds → (id : Puid) (c : ℕ) → created_if (ds id) ≡ Some c → (x : Puid) (p : Object) → object_at g x ≡ Some p → c ≢ x.block
made_apart a g ds had id c was x p there is = not_created a g ds had x p there (subst (IsMadeBy ds) is (record { id = id; makes = was }))

-- ---- a step of a draft

module _ (a b : Image) (g : Graph) (ds : Drafts) (id : Puid) (o : Object) (now : Option Opened) (had : Accounts a g ds) (at : object_at g id ≡ Some o) (draft : HasDraftIf b id now) where
  abbrev es : Drafts
  es = with_draft_if id now ds

  -- what changes is meant for the object, or for roots that its draft makes now or no longer
  module _ (cs : List ℕ) (changes : ChangesOnly (λ entry. of_drafts (id.block ∷ cs) entry) a b) (apart : (x : Puid) (p : Object) → object_at g x ≡ Some p → has_number x.block cs ≡ false)
      (remakes : Remakes (λ n. has_number n cs) ds id now) (become : (c : ℕ) → has_number c cs ≡ true → MakesOrNot b c es) where
    abbrev rs : List ℕ
    rs = id.block ∷ cs

    abbrev T : Option MapEntry → Bool
    T entry = of_drafts rs entry

    holds : Holds b g
    holds = frames_hold a b g had.holds (frames_others T a b g ds had changes g (λ x p there. (there, drafts_miss is_had refl rs x.block)))

    its_blocks : HasItsBlocks b id.block
    its_blocks = blocks_kept T a b g ds had changes id o at (drafts_miss is_had refl rs id.block) (drafts_miss is_leaving refl rs id.block)

    each : (x : Puid) (p : Object) → object_at g x ≡ Some p → HasItsBlocks b x.block × HasDraftIf b x (es x)
    each x p there = each_draft id now ds (λ y d. HasItsBlocks b y.block × HasDraftIf b y d) (its_blocks, draft) x (λ other.
        object_goes_on T a b g ds had changes x p there (drafts_miss is_had refl rs x.block) (drafts_miss is_leaving refl rs x.block)
        (list_misses is_meant is_meant rs x.block (none_more x.block id.block cs (other_block a g had.holds id x o p at there other) (apart x p there))))

    steps_on : Accounts b g es
    steps_on = accounts_go_on T a b g ds had changes (λ r. has_number r rs) (λ entry h. (and_parts (is_placed is_meant entry) _ h).1) es
        (λ r is. elim (or_cases (id.block == r) (has_number r cs) is) [
          | inl q ↦ subst (λ (k : ℕ). Becomes b es k) (eqb-true id.block r q)
              (inl (object_stands b g holds id o at its_blocks es (λ m. not_created a g ds had id o at ((others_made (λ n. has_number n cs) ds id now remakes id.block (apart id o at)).0 m))))
          | inr more ↦ inr (become r more)
        ])
        (λ n other. others_made (λ n. has_number n cs) ds id now remakes n (or_parts (id.block == n) (has_number n cs) other).1)
        g holds each (made_once_with (λ n. has_number n cs) ds id now remakes had.made_once) (still_on g g id now ds had.on_objects (there_from g id o at) (λ x h. h))

  pub draft_goes_on : ChangesOnly (λ entry. of_draft id.block entry) a b → created_if now ≡ created_if (ds id) → Accounts b g es
  draft_goes_on changes created = steps_on [] changes (λ x p there. refl) (same_makes (λ n. false) ds id now created) (λ c never. cc)

  -- the draft makes an object; and no longer
  pub making_begins : (c : ℕ) → ChangesOnly (λ entry. of_drafts (id.block ∷ c ∷ []) entry) a b → is_free_in a c ≡ true → created_if (ds id) ≡ None → created_if now ≡ Some c → IsMadeRoot b c → Accounts b g es
  making_begins c changes free none some made =
      steps_on (c ∷ []) changes
      (λ x p there. none_but x.block c (λ is. both_ways _ (free_unowned is_had refl x.block (entry_in a x.block) (subst (λ (k : ℕ). is_free_in a k ≡ true) is free)) ((had.objects x p there).each x.block (inl refl))))
      (makes_new c ds id now none some (λ m. made_not_free (entry_in a c) (had.made c m).entered free))
      (λ r is. subst (λ (k : ℕ). MakesOrNot b k es) (the_one r c is) (inl (made, record { id = id; makes = ap created_if (with_here id now ds) ∙ some })))

  pub making_ends : (c : ℕ) → ChangesOnly (λ entry. of_drafts (id.block ∷ c ∷ []) entry) a b → created_if (ds id) ≡ Some c → created_if now ≡ None → OwnsNothing b c → Accounts b g es
  making_ends c changes was none nothing =
      steps_on (c ∷ []) changes (λ x p there. none_but x.block c (made_apart a g ds had id c was x p there)) (makes_none c ds id now was none)
      (λ r is. subst (λ (k : ℕ). MakesOrNot b k es) (the_one r c is) (inr (nothing, no_longer_made c ds id now was none had.made_once)))

-- ---- a commit, a change in place

module _ (a b : Image) (g : Graph) (ds : Drafts) (id : Puid) (was o : Object) (now : Option Opened) (had : Accounts a g ds) (at : object_at g id ≡ Some was) (reads : ReadsAs (length a) id (sight b id.block) o)
    (has : HasItsBlocks b id.block) (draft : HasDraftIf b id now) where
  abbrev after : Drafts
  after = with_draft_if id now ds

  module _ (cs : List ℕ) (changes : ChangesOnly (λ entry. of_owners (id.block ∷ cs) entry) a b) (apart : (x : Puid) (p : Object) → object_at g x ≡ Some p → has_number x.block cs ≡ false) where
    abbrev owners : List ℕ
    owners = id.block ∷ cs

    abbrev Mine : Option MapEntry → Bool
    Mine entry = of_owners owners entry

    unknown : (x : Puid) (p : Object) → object_at g x ≡ Some p → same_puid x id ≡ false → has_number x.block owners ≡ false
    unknown x p there other = none_more x.block id.block cs (other_block a g had.holds id x was p at there other) (apart x p there)

    holds_changed : Holds b (with_object g id o)
    holds_changed = object_put a b g id o had.holds
        (frames_others Mine a b g ds had changes (others g id) (λ x p found. let other = other_is g id x p found in (other.0, list_misses is_taken is_had owners x.block (unknown x p other.0 other.1))))
        reads

    other_goes_on : (x : Puid) (p : Object) → object_at g x ≡ Some p → same_puid x id ≡ false → HasItsBlocks b x.block × HasDraftIf b x (after x)
    other_goes_on x p there other =
        let none = unknown x p there other in
        let on = object_goes_on Mine a b g ds had changes x p there (list_misses is_taken is_had owners x.block none) (list_misses is_taken is_leaving owners x.block none) (list_misses is_taken is_meant owners x.block none) in
        (on.0, subst (HasDraftIf b x) (sym (with_others id now ds x other)) on.1)

    -- The graph has the object, and one more for each root that is made.
    changes_on : (h : Graph) → Holds b h → object_at h id ≡ Some o → ((x : Puid) (p : Object) → object_at h x ≡ Some p → HasItsBlocks b x.block × HasDraftIf b x (after x)) → ((x : Puid) → is_there g x ≡ true → is_there h x ≡ true)
        → Remakes (λ n. has_number n cs) ds id now → ((c : ℕ) → has_number c cs ≡ true → Becomes b after c) → Accounts b h after
    changes_on h holds its each still remakes become =
        accounts_go_on Mine a b g ds had changes (λ r. has_number r owners) (λ entry h. (and_parts (is_placed is_taken entry) _ h).1) after
        (λ r is. elim (or_cases (id.block == r) (has_number r cs) is) [
          | inl q ↦ subst (λ (k : ℕ). Becomes b after k) (eqb-true id.block r q)
              (inl (object_stands b h holds id o its has after (λ m. not_created a g ds had id was at ((others_made (λ n. has_number n cs) ds id now remakes id.block (apart id was at)).0 m))))
          | inr more ↦ become r more
        ])
        (λ n other. others_made (λ n. has_number n cs) ds id now remakes n (or_parts (id.block == n) (has_number n cs) other).1)
        h holds each (made_once_with (λ n. has_number n cs) ds id now remakes had.made_once) (still_on g h id now ds had.on_objects (there_from h id o its) still)

  its_draft : HasItsBlocks b id.block × HasDraftIf b id (after id)
  its_draft = (has, subst (HasDraftIf b id) (sym (with_here id now ds)) draft)

  pub object_changes_on : ChangesOnly (λ entry. of_owner id.block entry) a b → created_if now ≡ created_if (ds id) → Accounts b (with_object g id o) after
  object_changes_on changes created =
      changes_on [] changes none (with_object g id o) (holds_changed [] changes none) (object_at_put g id o)
      (each_put g id o (λ x p. HasItsBlocks b x.block × HasDraftIf b x (after x)) its_draft (other_goes_on [] changes none)) (still_there g id o) (same_makes (λ n. false) ds id now created) (λ c never. cc)
    where
      none : (x : Puid) (p : Object) → object_at g x ≡ Some p → false ≡ false
      none x p there = refl

  -- ---- and another object is made beside it

  module _ (new : Puid) (p : Object) (made_was : created_if (ds id) ≡ Some new.block) (none : created_if now ≡ None) (reads_new : ReadsAs (length a) new (sight b new.block) p) (has_new : HasItsBlocks b new.block)
      (none_meant : (n : ℕ) → is_meant_for b new.block n ≡ false) where
    abbrev more : Graph
    more = with_object g new p

    new_apart : same_puid new id ≡ false
    new_apart = false_from_ne_true _ (λ is. made_apart a g ds had id new.block made_was id was at (ap (λ (y : Puid). y.block) (same_puid_is new id is)))

    at_new : object_at (with_object more id o) new ≡ Some p
    at_new = object_at-with_object more id o new ∙ ap (λ (t : Bool). cond t (Some o) (object_at more new)) new_apart ∙ object_at_put g new p

    -- no draft is of the new object
    new_meant : HasDraftIf b new (after new)
    new_meant = subst (HasDraftIf b new) (sym (with_others id now ds new new_apart ∙ no_draft a g ds had new (λ q there. made_apart a g ds had id new.block made_was new q there refl))) none_meant

    pub creation_goes_on : ChangesOnly (λ entry. of_owners (id.block ∷ new.block ∷ []) entry) a b → Accounts b (with_object more id o) after
    creation_goes_on changes =
        changes_on cs changes apart (with_object more id o) holds (object_at_put more id o)
        (each_made (λ x q. HasItsBlocks b x.block × HasDraftIf b x (after x)) its_draft (has_new, new_meant) (other_goes_on cs changes apart))
        (λ x h. still_there more id o x (still_there g new p x h)) (makes_none new.block ds id now made_was none)
        (λ r is. subst (λ (k : ℕ). Becomes b after k) (the_one r new.block is) (inl (object_stands b (with_object more id o) holds new p at_new has_new after (no_longer_made new.block ds id now made_was none had.made_once))))
      where
        cs : List ℕ
        cs = new.block ∷ []

        apart : (x : Puid) (q : Object) → object_at g x ≡ Some q → has_number x.block cs ≡ false
        apart x q there = none_but x.block new.block (made_apart a g ds had id new.block made_was x q there)

        each_made : (P : Puid → Object → Type 0) → P id o → P new p → ((x : Puid) (q : Object) → object_at g x ≡ Some q → same_puid x id ≡ false → P x q) → (x : Puid) (q : Object) → object_at (with_object more id o) x ≡ Some q → P x q
        each_made P at_id at_new other = each_put more id o P at_id (λ x q there apart. each_put g new p (λ y r. same_puid y id ≡ false → P y r) (λ is. at_new) (λ y r was differs. other y r was) x q there apart)

        changed : Holds b (with_object g id o)
        changed = holds_changed cs changes apart

        holds : Holds b (with_object more id o)
        holds = record {
          label = changed.label;
          maps = changed.maps;
          own = changed.own;
          fixed = changed.fixed;
          objects = each_made (λ x q. ReadsAs (length b) x (sight b x.block) q) (subst (λ (n : ℕ). ReadsAs n id (sight b id.block) o) (sym changes.size) reads)
              (subst (λ (n : ℕ). ReadsAs n new (sight b new.block) p) (sym changes.size) reads_new)
              (λ x q there other. changed.objects x q (object_at-with_object g id o x ∙ ap (λ (t : Bool). cond t (Some o) (object_at g x)) other ∙ there));
        }

-- an object that has no draft changes in place
pub changes_in_place : (a b : Image) (g : Graph) (ds : Drafts) (id : Puid) (was o : Object) → Accounts a g ds → object_at g id ≡ Some was → ds id ≡ None → ReadsAs (length a) id (sight b id.block) o → HasItsBlocks b id.block
    → ((n : ℕ) → is_meant_for b id.block n ≡ false) → ChangesOnly (λ entry. of_owner id.block entry) a b → Accounts b (with_object g id o) ds
changes_in_place a b g ds id was o had at shut reads has none changes =
    subst (Accounts b (with_object g id o)) (with_same id None ds shut) (object_changes_on a b g ds id was o None had at reads has none changes (sym (ap created_if shut)))

-- ---- a sweep

-- it misses the blocks of what is there
sweep_misses : (test : BlockState → Bool) (g : Graph) (x : ℕ) → has_block g.objects x ≡ true → Misses test (λ entry. is_stray g entry) x
sweep_misses test g x there entry h = false_from_ne_true _ (λ is.
    let two = and_parts (not (is_made entry)) (not (has_block g.objects (owner_of entry))) (and_parts (is_placed is_taken entry) _ h).1 in
    both_ways _ (not-true _ two.1) (ap (has_block g.objects) (sym (owner_is test x entry is)) ∙ there))

pub sweep_goes_on : (a b : Image) (g : Graph) (ds : Drafts) → Accounts a g ds → Sweeps g a b → Accounts b g ds
sweep_goes_on a b g ds had sweeps = record {
  holds = frames_hold a b g had.holds (frames_others T a b g ds had sweeps.only g (λ x o at. (at, sweep_misses is_had g x.block (block_there g x o at))));
  placed = placed_on T a b g ds had sweeps.only;
  rooted = sweeps.roots_last;
  objects = λ x o at. (each x o at).0;
  drafts = λ x o at. (each x o at).1;
  on_objects = had.on_objects;
  made = λ c there.
      let was = had.made c there in
      record { entered = ap is_made (entry_kept T a b g ds had sweeps.only c (made_shut (entry_in a c) was.entered)) ∙ was.entered; alone = λ n of_c. was.alone n (before is_taken refl c n of_c) };
  made_by = λ n made. had.made_by n (elim (sweeps.frees n) [ inl same ↦ ap is_made (sym same) ∙ made | inr free ↦ absurd (made_not_free (entry_in b n) made free) ]);
  made_once = had.made_once;
}
  where
    T : Option MapEntry → Bool
    T entry = is_stray g entry

    each : (x : Puid) (o : Object) → object_at g x ≡ Some o → HasItsBlocks b x.block × HasDraftIf b x (ds x)
    each x o at =
        let there = block_there g x o at in
        object_goes_on T a b g ds had sweeps.only x o at (sweep_misses is_had g x.block there) (sweep_misses is_leaving g x.block there) (sweep_misses is_meant g x.block there)

    before : (test : BlockState → Bool) → test Free ≡ false → (r n : ℕ) → is_owned_by test r (entry_in b n) ≡ true → is_owned_by test r (entry_in a n) ≡ true
    before test real r n h = elim (sweeps.frees n) [ inl same ↦ ap (is_owned_by test r) (sym same) ∙ h | inr free ↦ absurd (both_ways _ (free_unowned test real r (entry_in b n) free) h) ]

    made_shut : (entry : Option MapEntry) → is_made entry ≡ true → IsOpenTo T entry → ⊥
    made_shut entry made (inl free) = made_not_free entry made free
    made_shut entry made (inr two) = both_ways _ (not-true _ (and_parts (not (is_made entry)) _ (and_parts (is_placed is_taken entry) _ two.1).1).0) made

-- ---- objects vanish: no block changes

pub vanish_goes_on : (a : Image) (g : Graph) (ds : Drafts) (ids : List Puid) → Accounts a g ds → ((x : Puid) (d : Opened) → ds x ≡ Some d → is_there (without g ids) x ≡ true) → Accounts a (without g ids) ds
vanish_goes_on a g ds ids had on = record {
  holds = hold_fewer a g (without g ids) had.holds refl was;
  placed = had.placed;
  rooted = had.rooted;
  objects = λ x o at. had.objects x o (was x o at);
  drafts = λ x o at. had.drafts x o (was x o at);
  on_objects = on;
  made = had.made;
  made_by = had.made_by;
  made_once = had.made_once;
}
  where
    was : (x : Puid) (o : Object) → object_at (without g ids) x ≡ Some o → object_at g x ≡ Some o
    was x o found = elim (not (is_among x ids)) as (λ t. cond t (object_at g x) None ≡ Some o → object_at g x ≡ Some o) [
      | true ↦ λ h. h
      | false ↦ λ h. cc
    ] (sym (object_at-without g ids x) ∙ found)
