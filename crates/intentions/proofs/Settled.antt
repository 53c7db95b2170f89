-- What is to come of a commit that is past its bit.
use Rattle.std.proofs.Common.{◌≡◌, ◌≢◌, ⊎_elim, inl, inr, ℕ, Bool, true, false, List, set, Option, Some, None, refl, sym, ◌∙◌, ap, subst}
use Rattle.std.specs.Prelude.{◌==◌, ◌++◌, IsSome}
use Rattle.std.proofs.lemmas.Bool.{eq-eqb, ne_eqb}
use Rattle.cyl_alloc.specs.Left.{LeftCommit}
use Rattle.cyl_map.proofs.Mapped.{mapped_after, mapped_is, mapped_one, mapped_then}
use Rattle.cyl_map.specs.Mapped.{AreWhole, IsMapped, mapped}
use Rattle.cyl_map.specs.Map.{is_free}
use Rattle.intentions.proofs.Committed.{copied_settles, copies}
use Rattle.intentions.proofs.Settling.{may_clear}
use Rattle.intentions.proofs.Turned.{has_second, turned_append, turned_on, turned_is, whole_on}
use Rattle.intentions.proofs.Words.{Allocated, BlockState, Course, Free, Ghosts, Graph, Image, IntendAllocate, IntendDeallocate, IsCopied, IsEntry, IsOn, MapEntry, MaySettle, Object, Puid, Root, Settles, Settling, block_at, entry_in, placed, part_of, with_entry}
use Rattle.intentions.proofs.Courses.{on_entry}
use Rattle.intentions.specs.Entries.{changed_entry, without_bit}
use Rattle.intentions.specs.Left.{AreOpen, GoesOn, coming, copied_if, how_for, how_left, settled}
use Rattle.intentions.specs.Turned.{MayTurn, changed_if, turned}
use Rattle.intentions.specs.declared.change.EntryChange.TheVariants.{ClearBit}
use Rattle.ufs_model.specs.Numbers.{has_number}
use Rattle.vol_owners.specs.Change.{IsOpenTo, of_owners}

-- ---- an entry

-- what is Free stays so
pub turned_free : (b : Bool) (e : MapEntry) → is_free e ≡ true → is_free (changed_entry (how_for b) e) ≡ true
turned_free b e free = at b e.state free
  where
    at : (b : Bool) (s : BlockState) → is_free (record e { state = s }) ≡ true → is_free (changed_entry (how_for b) (record e { state = s })) ≡ true
    at true Free h = refl
    at true Allocated h = cc
    at true IntendAllocate h = cc
    at true IntendDeallocate h = cc
    at false Free h = refl
    at false Allocated h = cc
    at false IntendAllocate h = cc
    at false IntendDeallocate h = cc

pub settled_free : (l : LeftCommit) (n : ℕ) (e : MapEntry) → is_free e ≡ true → is_free (settled l n e) ≡ true
settled_free l n e free = at (n == l.root) (has_number n l.rest)
  where
    at : (b c : Bool) → is_free (changed_if b ClearBit (changed_if c (how_left l n) e)) ≡ true
    at true true = turned_free (n == l.shadow) e free
    at true false = free
    at false true = turned_free (n == l.shadow) e free
    at false false = free

-- what is open to changes of its owners stays so
module _ (owners : List ℕ) where
  abbrev Opens : MapEntry → Type 0
  Opens e = IsOpenTo (λ x. of_owners owners x) (Some e)

  pub turned_open : (b : Bool) (e : MapEntry) → Opens e → Opens (changed_entry (how_for b) e)
  turned_open b e opens = at b e.state opens
    where
      at : (b : Bool) (s : BlockState) → Opens (record e { state = s }) → Opens (changed_entry (how_for b) (record e { state = s }))
      at true Free opens = opens
      at true Allocated opens = opens
      at true IntendAllocate opens = inl refl
      at true IntendDeallocate opens = ⊎_elim (λ free. cc) (λ two. inr two) opens
      at false Free opens = opens
      at false Allocated opens = opens
      at false IntendAllocate opens = ⊎_elim (λ free. cc) (λ two. inr two) opens
      at false IntendDeallocate opens = inl refl

  pub settled_open : (l : LeftCommit) (n : ℕ) (e : MapEntry) → Opens e → Opens (settled l n e)
  settled_open l n e opens = at (n == l.root) (has_number n l.rest)
    where
      at : (b c : Bool) → Opens (changed_if b ClearBit (changed_if c (how_left l n) e))
      at true true = turned_open (n == l.shadow) e opens
      at true false = opens
      at false true = turned_open (n == l.shadow) e opens
      at false false = opens

  pub open_then : (s : ℕ) (ms ns : List ℕ) (a b : Image) → IsMapped (turned (λ n. how_for (n == s)) ms) a b → ((n : ℕ) → has_number n (ms ++ ns) ≡ true → IsSome (entry_in a n)) → AreOpen owners a (ms ++ ns) → AreOpen owners b ns
  open_then s ms ns a b is there opens n among = by (entry_in a n) refl
    where
      at : (t : Bool) (e : MapEntry) → Opens e → Opens (changed_if t (how_for (n == s)) e)
      at true e opens = turned_open (n == s) e opens
      at false e opens = opens

      by : (was : Option MapEntry) → entry_in a n ≡ was → IsOpenTo (λ x. of_owners owners x) (entry_in b n)
      by None was = (let no = subst (λ (o : Option MapEntry). IsSome o) was (there n (has_second n ms ns among)) in cc)
      by (Some e) was = subst (IsOpenTo (λ x. of_owners owners x)) (sym (is.entries n e was)) (at (has_number n ms) e (subst (IsOpenTo (λ x. of_owners owners x)) was (opens n (has_second n ms ns among))))

-- what is neither left nor the root stays
pub settled_stays : (l : LeftCommit) (n : ℕ) (e : MapEntry) → n ≢ l.root → has_number n l.rest ≡ false → settled l n e ≡ e
settled_stays l n e other none = (λ i. changed_if (ne_eqb n l.root other i) ClearBit (changed_if (none i) (how_left l n) e))

-- ---- the image

-- some of what was left is done
pub comes_after : (r s : ℕ) (ms ns : List ℕ) (a b : Image) → AreWhole a → IsMapped (turned (λ n. how_for (n == s)) ms) a b
    → coming b (Some (record { root = r; shadow = s; rest = ns; copied = true })) ≡ coming a (Some (record { root = r; shadow = s; rest = ms ++ ns; copied = true }))
comes_after r s ms ns a b whole is = mapped_after (turned (λ n. how_for (n == s)) ms) a b whole is _ _ (λ n e here. ap (changed_if (n == r) ClearBit) (turned_append (λ n. how_for (n == s)) ms ns n e))

-- the bit is cleared
pub bit_cleared_at : (l : LeftCommit) (b : Image) (e : MapEntry) → entry_in b l.root ≡ Some e → IsEntry (without_bit e) → IsMapped (λ n x. changed_if (n == l.root) ClearBit x) b (with_entry b l.root (without_bit e))
bit_cleared_at l b e here valid =
    let f = λ (n : ℕ) (x : MapEntry). changed_if (n == l.root) ClearBit x in
    let same : changed_if (l.root == l.root) ClearBit e ≡ without_bit e = ap (λ (t : Bool). changed_if t ClearBit e) (eq-eqb l.root l.root refl) in
    subst (λ (x : MapEntry). IsMapped f b (with_entry b l.root x)) same
    (mapped_one f b l.root e here (subst IsEntry (sym same) valid) (λ m x other. ap (λ (t : Bool). changed_if t ClearBit x) (ne_eqb m l.root other)))

module _ (c : Image) (graph : Graph) (id : Puid) (o : Object) (l : LeftCommit) (root : id.block ≡ l.root) where
  abbrev w : Course
  w = Settling c graph id o l.shadow

  -- the bit of the root may be cleared
  module _ (is : IsCopied c graph id o l.shadow) (b : Image) (on : Settles c graph id l.shadow b) where
    pub bit_here : (e : MapEntry) × (entry_in b id.block ≡ Some e) × MaySettle c graph id l.shadow id.block e (without_bit e)
    bit_here =
        let now = placed b id.block id.block Root (part_of (entry_in b id.block)) refl on.part in
        (now.taken.is, now.taken.here, may_clear c graph id o l.shadow is b now.taken.is on now.taken.here)

  module _ (is : IsCopied c graph id o l.shadow) (a : Image) (on : IsOn (Settling c graph id o l.shadow) a) (may : MayTurn (Settling c graph id o l.shadow) a (how_left l) l.rest) where
    abbrev b : Image
    b = mapped (turned (how_left l) l.rest) a

    turns : IsMapped (turned (how_left l) l.rest) a b
    turns = turned_is w (how_left l) is l.rest a on may

    on_b : Settles c graph id l.shadow b
    on_b = turned_on w (how_left l) is l.rest a b on may turns

    -- the end of it, which may come
    settled_end : (end : Image) × IsMapped (settled l) a end × Settles c graph id l.shadow end
    settled_end =
        let bit = bit_here is b on_b in
        let end = with_entry b id.block (without_bit bit.0) in (
          end,
          mapped_then (turned (how_left l) l.rest) (λ n x. changed_if (n == l.root) ClearBit x) a b end turns (subst (λ (n : ℕ). IsMapped (λ m x. changed_if (m == l.root) ClearBit x) b (with_entry b n (without_bit bit.0))) (sym root) (bit_cleared_at l b bit.0 (ap (entry_in b) (sym root) ∙ bit.1) bit.2.entry)),
          on_entry w b id.block bit.0 (without_bit bit.0) is on_b bit.1 bit.2,
        )

    end_is : mapped (settled l) a ≡ settled_end.0
    end_is = mapped_is (settled l) a settled_end.0 (whole_on w (how_left l) is a on) settled_end.1

    pub settled_is : IsMapped (settled l) a (mapped (settled l) a)
    settled_is = subst (IsMapped (settled l) a) (sym end_is) settled_end.1

    pub settled_on : Settles c graph id l.shadow (mapped (settled l) a)
    settled_on = subst (Settles c graph id l.shadow) (sym end_is) settled_end.2

-- ---- from the disk as it is

module _ {D : Type 0} (g : Ghosts D) (graph : Graph) (d : D) (l : LeftCommit) (id : Puid) (o : Object) (root : id.block ≡ l.root) where
  abbrev image : Image
  image = g.content d

  -- The image with the root copied settles.
  pub record IsLeftOn (b : Bool) (c : Image) : Type 0 where
    pub copied : IsCopied c graph id o l.shadow
    pub on : Settles c graph id l.shadow (copied_if b l (g.content d))
    pub may : MayTurn (Settling c graph id o l.shadow) (copied_if b l (g.content d)) (how_left l) l.rest
    pub entries : (n : ℕ) → entry_in (copied_if b l (g.content d)) n ≡ entry_in (g.content d) n

  pub left_on : (b : Bool) → GoesOn g b graph id o l d → (c : Image) × IsLeftOn b c
  left_on true goes = (goes.0, record { copied = goes.1; on = goes.2.content; may = goes.3; entries = λ n. refl })
  left_on false goes =
      let c = copied_if false l image in
      let made = copies image graph id o l.shadow goes.1 in
      let c_is : set image id.block (block_at image l.shadow) ≡ c = ap (λ (n : ℕ). set image n (block_at image l.shadow)) root in (
        c,
        record {
          copied = subst (λ (i : Image). IsCopied i graph id o l.shadow) c_is made.copied;
          on = subst (λ (i : Image). Settles i graph id l.shadow i) c_is (copied_settles image (set image id.block (block_at image l.shadow)) graph id o l.shadow made);
          may = goes.2;
          entries = λ n. subst (λ (i : Image). entry_in i n ≡ entry_in image n) c_is (made.entries n);
        },
      )

  module _ (b : Bool) (goes : GoesOn g b graph id o l d) where
    abbrev at : IsLeftOn b (left_on b goes).0
    at = (left_on b goes).1

    pub left_is : IsMapped (settled l) (copied_if b l (g.content d)) (mapped (settled l) (copied_if b l (g.content d)))
    left_is = settled_is (left_on b goes).0 graph id o l root at.copied (copied_if b l image) at.on at.may

    pub left_ends : Settles (left_on b goes).0 graph id l.shadow (mapped (settled l) (copied_if b l (g.content d)))
    left_ends = settled_on (left_on b goes).0 graph id o l root at.copied (copied_if b l image) at.on at.may

    pub left_whole : AreWhole (copied_if b l (g.content d))
    left_whole = whole_on (Settling (left_on b goes).0 graph id o l.shadow) (how_left l) at.copied (copied_if b l image) at.on

    pub left_entry : (n : ℕ) (e : MapEntry) → entry_in (g.content d) n ≡ Some e → entry_in (mapped (settled l) (copied_if b l (g.content d))) n ≡ Some (settled l n e)
    left_entry n e here = left_is.entries n e (at.entries n ∙ here)
