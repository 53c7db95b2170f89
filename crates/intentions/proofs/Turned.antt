-- Images with the entries of some blocks changed, each for itself.
use Rattle.std.proofs.Common.{◌≡◌, ◌≢◌, ◌⊎◌, inl, inr, ℕ, ◌+◌, ◌<◌, Bool, true, false, List, [], ◌∷◌, ◌++◌, length, Option, Some, None, refl, sym, ◌∙◌, ap, subst, arith}
use Rattle.std.specs.Prelude.{◌==◌, ◌||◌, IsSome, option_to_list}
use Rattle.std.proofs.lemmas.Bool.{cases_Bool, eq-eqb, ne_eqb, or_cases}
use Rattle.block_tree.specs.Reads.{is_damage}
use Rattle.cfs_base.specs.Refusals.{trouble_after_try}
use Rattle.cfs_base.specs.declared.refusal.Trouble.TheVariants as trouble
use Rattle.cyl_map.proofs.Mapped.{mapped_is, mapped_none, mapped_one, mapped_then, mapped_as}
use Rattle.cyl_map.specs.Mapped.{AreWhole, IsMapped, mapped}
use Rattle.intentions.proofs.Words.{Allocated, BlockState, Course, Frame, Free, Ghosts, Image, IntendAllocate, IntendDeallocate, IsCourse, IsEntry, IsMapTrouble, IsOn, Keeps, Leaf, Span, MapEntry, MayPut, Node, Place, Root, Settling, ShadowRoot, Trouble, entry_in, finished, map_in_image, map_of, released, released_at, undone, with_bit, with_bit_at, with_entry}
use Rattle.intentions.proofs.Courses.{on_entry, on_holds}
use Rattle.intentions.specs.Entries.{changed_entry}
use Rattle.intentions.specs.Turned.{MayTurn, changed_if, turned}
use Rattle.intentions.specs.declared.change.EntryChange.{EntryChange}
use Rattle.intentions.specs.declared.change.EntryChange.TheVariants.{Claim, ClearBit, Finish, Release, SetBit, Undo}
use Rattle.ufs_model.specs.Numbers.{has_number}
use Rattle.vol_owners.proofs.Differ.{has-append}
pub use Rattle.vol_owners.proofs.Keys.{option_is}

-- ---- numbers of lists

pub first_number : (n : ℕ) (ns : List ℕ) → has_number n (n ∷ ns) ≡ true
first_number n ns = rw (eq-eqb n n refl) refl

pub more_numbers : (n m : ℕ) (ns : List ℕ) → has_number m ns ≡ true → has_number m (n ∷ ns) ≡ true
more_numbers n m ns there = elim (cases_Bool (n == m)) [ inl is ↦ rw is refl | inr not ↦ rw not there ]

pub not_only : (s n : ℕ) → n ≢ s → has_number n (s ∷ []) ≡ false
not_only s n apart = rw (ne_eqb s n (λ same. apart (sym same))) refl

pub option_has : (x : Option ℕ) (n : ℕ) → x ≡ Some n → has_number n (option_to_list x) ≡ true
option_has x n is = subst (λ (y : Option ℕ). has_number n (option_to_list y) ≡ true) (sym is) (first_number n [])

pub has_first : (n : ℕ) (ms ns : List ℕ) → has_number n ms ≡ true → has_number n (ms ++ ns) ≡ true
has_first n ms ns is = has-append n ms ns ∙ ap (λ (b : Bool). b || has_number n ns) is

pub has_second : (n : ℕ) (ms ns : List ℕ) → has_number n ns ≡ true → has_number n (ms ++ ns) ≡ true
has_second n ms ns is = has-append n ms ns ∙ ap (λ (b : Bool). has_number n ms || b) is ∙ or_true (has_number n ms)
  where
    or_true : (b : Bool) → (b || true) ≡ true
    or_true true = refl
    or_true false = refl

pub has_either : (n : ℕ) (ms ns : List ℕ) → has_number n (ms ++ ns) ≡ true → (has_number n ms ≡ true) ⊎ (has_number n ns ≡ true)
has_either n ms ns is = or_cases _ _ (sym (has-append n ms ns) ∙ is)

-- ---- one entry

-- a change that is made once more changes nothing
pub changed_again : (how : EntryChange) (e : MapEntry) → changed_entry how (changed_entry how e) ≡ changed_entry how e
changed_again (Claim place owner) e = refl
changed_again ClearBit e = refl
changed_again SetBit e = at e.place
  where
    at : (p : Option Place) → with_bit (with_bit_at p (record e { place = p })) ≡ with_bit_at p (record e { place = p })
    at None = refl
    at (Some Root) = refl
    at (Some ShadowRoot) = refl
    at (Some (Node n)) = refl
    at (Some (Leaf n)) = refl
    at (Some (Span n)) = refl
changed_again Release e = at e.place e.state
  where
    at : (p : Option Place) (s : BlockState) → released (released_at p (record e { place = p; state = s })) ≡ released_at p (record e { place = p; state = s })
    at None s = refl
    at (Some Root) s = refl
    at (Some ShadowRoot) s = refl
    at (Some (Node n)) Free = refl
    at (Some (Node n)) Allocated = refl
    at (Some (Node n)) IntendAllocate = refl
    at (Some (Node n)) IntendDeallocate = refl
    at (Some (Leaf n)) Free = refl
    at (Some (Leaf n)) Allocated = refl
    at (Some (Leaf n)) IntendAllocate = refl
    at (Some (Leaf n)) IntendDeallocate = refl
    at (Some (Span n)) Free = refl
    at (Some (Span n)) Allocated = refl
    at (Some (Span n)) IntendAllocate = refl
    at (Some (Span n)) IntendDeallocate = refl
changed_again Finish e = at e.state
  where
    at : (s : BlockState) → finished (finished (record e { state = s })) ≡ finished (record e { state = s })
    at Free = refl
    at Allocated = refl
    at IntendAllocate = refl
    at IntendDeallocate = refl
changed_again Undo e = at e.state
  where
    at : (s : BlockState) → undone (undone (record e { state = s })) ≡ undone (record e { state = s })
    at Free = refl
    at Allocated = refl
    at IntendAllocate = refl
    at IntendDeallocate = refl

pub put_valid : (w : Course) (n : ℕ) (old e : MapEntry) → MayPut w n old e → IsEntry e
put_valid (Frame a graph) n old e may = may.0
put_valid (Settling c graph id o s) n old e may = may.entry

-- what was put may be put once more
put_same : (w : Course) (n : ℕ) (old e : MapEntry) → MayPut w n old e → MayPut w n e e
put_same (Frame a graph) n old e may = (may.0, may.1, record { apart = may.2.apart; keeps = λ held. refl; standing = λ id o at bit. refl })
put_same (Settling c graph id o s) n old e may = record {
  apart = may.apart;
  others = λ held. refl;
  entry = may.entry;
  itself = may.itself;
  root = may.root;
  inner = λ path h there same. refl;
  shadow = may.shadow;
  of_others = may.of_others;
  of_others_before = may.of_others;
}

-- ---- one list after another

-- where some are changed and then others, all are
pub turned_append : (how : ℕ → EntryChange) (ms ns : List ℕ) (n : ℕ) (e : MapEntry) → turned how ns n (turned how ms n e) ≡ turned how (ms ++ ns) n e
turned_append how ms ns n e = both (has_number n ms) (has_number n ns) ∙ ap (λ (b : Bool). changed_if b (how n) e) (sym (has-append n ms ns))
  where
    both : (b c : Bool) → changed_if c (how n) (changed_if b (how n) e) ≡ changed_if (b || c) (how n) e
    both true true = changed_again (how n) e
    both true false = refl
    both false true = refl
    both false false = refl

pub turns_then : (how : ℕ → EntryChange) (ms ns : List ℕ) (a b c : Image) → IsMapped (turned how ms) a b → IsMapped (turned how ns) b c → IsMapped (turned how (ms ++ ns)) a c
turns_then how ms ns a b c one two = mapped_as _ _ a c (mapped_then (turned how ms) (turned how ns) a b c one two) (λ n e here. turned_append how ms ns n e)

-- one alone
pub turned_here : (how : ℕ → EntryChange) (n : ℕ) (e : MapEntry) → turned how (n ∷ []) n e ≡ changed_entry (how n) e
turned_here how n e = ap (λ (b : Bool). changed_if b (how n) e) (first_number n [])

pub turn_one : (how : ℕ → EntryChange) (a : Image) (n : ℕ) (e : MapEntry) → entry_in a n ≡ Some e → IsEntry (changed_entry (how n) e) → IsMapped (turned how (n ∷ [])) a (with_entry a n (changed_entry (how n) e))
turn_one how a n e here valid =
    let same = turned_here how n e in
    subst (λ (x : MapEntry). IsMapped (turned how (n ∷ [])) a (with_entry a n x)) same
    (mapped_one (turned how (n ∷ [])) a n e here (subst IsEntry (sym same) valid) (λ m x other. ap (λ (b : Bool). changed_if b (how m) x) (not_only n m other)))

-- ---- on a course

module _ (w : Course) (how : ℕ → EntryChange) where
  pub may_first : (ms ns : List ℕ) (a : Image) → MayTurn w a how (ms ++ ns) → MayTurn w a how ms
  may_first ms ns a may n is = may n (has_first n ms ns is)

  pub may_then : (ms ns : List ℕ) (a b : Image) → IsMapped (turned how ms) a b → MayTurn w a how (ms ++ ns) → MayTurn w b how ns
  may_then ms ns a b is may n there =
      let one = may n (has_second n ms ns there) in
      let e = one.0 in
      let now = is.entries n e one.1 in
      elim (cases_Bool (has_number n ms)) [
        | inl twice ↦ (
          changed_entry (how n) e,
          now ∙ ap (λ (b : Bool). Some (changed_if b (how n) e)) twice,
          subst (MayPut w n (changed_entry (how n) e)) (sym (changed_again (how n) e)) (put_same w n e (changed_entry (how n) e) one.2),
        )
        | inr once ↦ (e, now ∙ ap (λ (b : Bool). Some (changed_if b (how n) e)) once, one.2)
      ]

  module _ (is : IsCourse w) where
    pub whole_on : (a : Image) → IsOn w a → AreWhole a
    whole_on a on n below = (let holds = on_holds w a is on in holds.maps n (omega (arith, holds.label.size_is, below)))

    -- each may be changed after the others
    turned_there : (ns : List ℕ) (a : Image) → IsOn w a → MayTurn w a how ns → (b : Image) × IsMapped (turned how ns) a b × IsOn w b
    turned_there [] a on may = (a, mapped_none (turned how []) a (λ n e here. refl), on)
    turned_there (n ∷ ns) a on may =
        let one = may n (first_number n ns) in
        let b = with_entry a n (changed_entry (how n) one.0) in
        let first = turn_one how a n one.0 one.1 (put_valid w n one.0 (changed_entry (how n) one.0) one.2) in
        let rest = turned_there ns b (on_entry w a n one.0 (changed_entry (how n) one.0) is on one.1 one.2) (may_then (n ∷ []) ns a b first may) in
        (rest.0, turns_then how (n ∷ []) ns a b rest.0 first rest.1, rest.2)

    pub turned_on : (ns : List ℕ) (a b : Image) → IsOn w a → MayTurn w a how ns → IsMapped (turned how ns) a b → IsOn w b
    turned_on ns a b on may turns =
        let there = turned_there ns a on may in
        let whole = whole_on a on in
        subst (IsOn w) (sym (mapped_is (turned how ns) a there.0 whole there.1) ∙ mapped_is (turned how ns) a b whole turns) there.2

    -- all at once
    pub turned_is : (ns : List ℕ) (a : Image) → IsOn w a → MayTurn w a how ns → IsMapped (turned how ns) a (mapped (turned how ns) a)
    turned_is ns a on may = (let there = turned_there ns a on may in subst (IsMapped (turned how ns) a) (sym (mapped_is (turned how ns) a there.0 (whole_on a on) there.1)) there.1)

-- ---- damage

module _ {D : Type 0} (g : Ghosts D) (n : ℕ) (old new : D) where
  -- no map is bad where the image holds objects
  pub no_damage : (w : Course) → IsCourse w → Keeps g w old → (e : MapEntry) → entry_in (g.content old) n ≡ Some e → (t : Trouble) → IsMapTrouble g old new n t → is_damage (trouble_after_try t) ≡ false
  no_damage w fits keeps e here (trouble.Disk tried) is = refl
  no_damage w fits keeps e here (trouble.Damaged damage) is =
      let holds = on_holds w (g.content old) fits keeps.content in
      let bad = is.bad keeps.tells in
      let below : map_of n + bad.0 < length (g.content old) = omega (arith, bad.1, holds.label.size_is, map_in_image (g.content old) n e here) in
      absurd (some_none (entry_in (g.content old) (map_of n + bad.0)) bad.2 (holds.maps (map_of n + bad.0) below))
    where
      some_none : (o : Option MapEntry) → o ≡ None → IsSome o → ⊥
      some_none None none h = cc
      some_none (Some e) none h = cc
