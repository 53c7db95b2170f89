-- A commit that goes on, part by part.
use Rattle.std.proofs.Common.{◌≡◌, ◌≢◌, inl, inr, ℕ, Bool, true, false, List, [], ◌∷◌, ◌++◌, length, set, Ok, Err, Option, Some, None, refl, sym, ◌∙◌, ap, subst, cond}
use Rattle.std.specs.Prelude.{◌==◌, ◌%◌, IfErr, IsSome, OnOk, Result}
use Rattle.std.proofs.lemmas.Bool.{cases_Bool}
use Rattle.cyl_map.specs.Entry.{IsEntry}
use Rattle.cyl_map.specs.Map.{is_free}
use Rattle.cyl_alloc.specs.Space.{after_giving, AreCounts, Kept}
use Rattle.cyl_alloc.proofs.Counted.{counts_content, counts_given, counts_same}
use Rattle.vol_image.proofs.Parts.{root_placed, taken_apart}
use Rattle.vol_image.proofs.Steps.{not_map}
use Rattle.vol_image.specs.Run.{Carries}
use Rattle.std.proofs.lemmas.Option.{same_Some}
use Rattle.finisher.specs.Going.{GoesFrom}
use Rattle.cyl_alloc.specs.Left.{after_in, after_part, block_no, next_part_in, next_part_of, LeftCommit}
use Rattle.cyl_alloc.specs.declared.part.Part.TheVariants as parts_are
use Rattle.cyl_alloc.specs.declared.part.Part.{Part}
use Rattle.std.specs.Option.{option_map}
use Rattle.cfs_base.specs.declared.identifier.BlockNo.{BlockNo}
use Rattle.cfs_base.specs.Disk.{Image, block_at}
use Rattle.cfs_base.specs.Refusals.{trouble_after_try}
use Rattle.cfs_base.specs.Run.{IsSettled, Leaves, Tells}
use Rattle.cfs_base.specs.declared.disk.Disk.{Ghosts}
use Rattle.cfs_base.specs.declared.identifier.Puid.{Puid}
use Rattle.cfs_base.specs.declared.refusal.Trouble.{Trouble}
use Rattle.cfs_base.specs.declared.refusal.Trouble.TheVariants as trouble
use Rattle.cfs_base.proofs.Runs.{wider}
use Rattle.cyl_alloc.specs.Refusals.{IsMapTrouble}
use Rattle.cyl_map.specs.declared.entry.MapEntry.{MapEntry}
use Rattle.cyl_map.specs.Volume.{entry_in, with_entry}
use Rattle.intentions.specs.Calls.{ChangesBit, ChangesEntry}
use Rattle.intentions.specs.Commit.{Copies, IsCommitted}
use Rattle.intentions.specs.Course.{Course, IsOn, Keeps, MayPut, Settling}
use Rattle.intentions.specs.Entries.{changed_entry, without_bit}
use Rattle.intentions.specs.Store.{StoreHas}
use Rattle.intentions.specs.declared.change.EntryChange.TheVariants.{ClearBit}
use Rattle.intentions.proofs.Committed.{copied_settles}
use Rattle.intentions.proofs.Courses.{carries_ended, keeps_settled, on_holds}
use Rattle.block_tree.specs.Reads.{is_damage}
use Rattle.cyl_map.proofs.Mapped.{mapped_is}
use Rattle.cyl_map.specs.Mapped.{AreWhole, IsMapped, mapped}
use Rattle.intentions.proofs.Settled.{bit_cleared_at, bit_here, comes_after, open_then}
use Rattle.intentions.proofs.Turned.{first_number, may_first, may_then, no_damage, put_valid, turn_one, whole_on}
use Rattle.intentions.specs.Turned.{MayTurn, turned}
use Rattle.ufs_model.specs.declared.object.Object.{Object}
use Rattle.ufs_model.specs.Graph.{Graph}
use Rattle.vol_image.specs.Sound.{Holds}
use Rattle.vol_owners.specs.Account.{Accounts, Drafts}
use Rattle.vol_owners.specs.Change.{IsOpenTo, of_owners}
use Rattle.intentions.specs.Left.{HasLeft, IsGoing, coming, how_for, settled}
use Rattle.intentions.specs.Runs.{is_freed}

abbrev parts : ℕ → ℕ → List ℕ → Bool → LeftCommit
parts r s rest b = record { root = r; shadow = s; rest = rest; copied = b }

-- the same parts
pub left_is : (l : LeftCommit) (r s : ℕ) (rest : List ℕ) (b : Bool) → l.root ≡ r → l.shadow ≡ s → l.rest ≡ rest → l.copied ≡ b → parts r s rest b ≡ l
left_is l r s rest b er es et eb =
    subst (λ (x : ℕ). parts x s rest b ≡ l) er (subst (λ (x : ℕ). parts l.root x rest b ≡ l) es (subst (λ (x : List ℕ). parts l.root l.shadow x b ≡ l) et (subst (λ (x : Bool). parts l.root l.shadow l.rest x ≡ l) eb refl)))

pub still_sound : (t : Trouble) → is_damage (trouble_after_try t) ≡ false → is_damage t ≡ false
still_sound (trouble.Disk tried) h = refl
still_sound (trouble.Damaged damage) h = h

abbrev before_copy : ℕ → ℕ → List ℕ → LeftCommit
before_copy r s rest = record { root = r; shadow = s; rest = rest; copied = false }

abbrev after_copy : ℕ → ℕ → List ℕ → LeftCommit
after_copy r s rest = record { root = r; shadow = s; rest = rest; copied = true }

-- ---- the copy

module _ {D : Type 0} (g : Ghosts D) (graph : Graph) (d0 d1 : D) (k : Kept) (r s : ℕ) (rest : List ℕ) (has : IsGoing g graph d0 k (before_copy r s rest)) where
  pub copy_leaves : ((graph : Graph) (id : Puid) (o : Object) → id.block ≡ r → IsSettled g d0 → IsCommitted (g.content d0) graph id o s → Leaves g d0 d1 (λ c. Holds c graph)) → Leaves g d0 d1 (λ c. Holds c graph)
  copy_leaves leaves = leaves graph has.id has.object has.root_is has.goes.0 has.goes.1

  root_real : r % 64 ≢ 0
  root_real =
      let is = has.goes.1 in
      let root = root_placed (g.content d0) (length (g.content d0)) has.id has.object (is.holds.objects has.id has.object is.at) in
      subst (λ (n : ℕ). n % 64 ≢ 0) has.root_is (not_map has.id.block (taken_apart (g.content d0) graph is.holds has.id.block has.id.block root.taken))

  module _ (copies : Copies (g.content d0) (g.content d1) graph has.id has.object s) (content : g.content d1 ≡ set (g.content d0) r (block_at (g.content d0) s)) (settled : IsSettled g d1) where
    pub copy_comes : coming (g.content d1) (Some (after_copy r s rest)) ≡ coming (g.content d0) (Some (before_copy r s rest))
    copy_comes = ap (λ (i : Image). coming i (Some (after_copy r s rest))) content

    pub copy_counts : AreCounts (g.content d1) k
    copy_counts = subst (λ (i : Image). AreCounts i k) (sym content) (counts_content (g.content d0) k r (block_at (g.content d0) s) root_real has.counts)

    abbrev pub copy_goes : IsGoing g graph d1 k (after_copy r s rest)
    copy_goes = record {
      id = has.id;
      object = has.object;
      root_is = has.root_is;
      goes = (
        g.content d1,
        copies.copied,
        keeps_settled g (Settling (g.content d1) graph has.id has.object s) d1 settled (copied_settles (g.content d0) (g.content d1) graph has.id has.object s copies),
        subst (λ (i : Image). MayTurn (Settling i graph has.id has.object s) i (λ n. how_for (n == s)) rest) (sym content) has.goes.2,
      );
      counts = copy_counts;
    }

pub copy_store : {D : Type 0} (g : Ghosts D) (graph : Graph) (ds : Drafts) (d0 d1 : D) (k : Kept) (r s : ℕ) (rest : List ℕ) (has : HasLeft g graph ds d0 k (before_copy r s rest)) → Copies (g.content d0) (g.content d1) graph has.going.id has.going.object s
    → g.content d1 ≡ set (g.content d0) r (block_at (g.content d0) s) → IsSettled g d1 → HasLeft g graph ds d1 k (after_copy r s rest)
copy_store g graph ds d0 d1 k r s rest has copies content settled = record {
  going = copy_goes g graph d0 d1 k r s rest has.going copies content settled;
  owners = has.owners;
  own = has.own;
  opens = λ n there. subst (IsOpenTo (λ e. of_owners has.owners e)) (sym (copies.entries n)) (has.opens n there);
  shut = has.shut;
  account = subst (λ (i : Image). Accounts i graph ds) (sym (copy_comes g graph d0 d1 k r s rest has.going copies content settled)) has.account;
  ordered = has.ordered;
}

-- ---- some entries

-- The entries of the first of what is left are changed.
module _ {D : Type 0} (g : Ghosts D) (d0 d1 : D) (k0 k1 : Kept) (r s : ℕ) (ms ns : List ℕ) where
  abbrev turns : ℕ → MapEntry → MapEntry
  turns n e = turned (λ m. how_for (m == s)) ms n e

  -- on the course of a commit that goes on
  abbrev pub course : (graph : Graph) → IsGoing g graph d0 k0 (after_copy r s (ms ++ ns)) → Course
  course graph has = Settling has.goes.0 graph has.id has.object s

  pub record Turns (graph : Graph) (has : IsGoing g graph d0 k0 (after_copy r s (ms ++ ns))) : Type 0 where
    pub content : IsMapped (turned (λ m. how_for (m == s)) ms) (g.content d0) (g.content d1)
    pub keeps : Keeps g (Settling has.goes.0 graph has.id has.object s) d1
    pub leaves : Leaves g d0 d1 (IsOn (Settling has.goes.0 graph has.id has.object s))
    pub counts : AreCounts (g.content d1) k1

  module _ (graph : Graph) (has : IsGoing g graph d0 k0 (after_copy r s (ms ++ ns))) where
    pub whole : AreWhole (g.content d0)
    whole = whole_on (course graph has) (λ m. how_for (m == s)) has.goes.1 (g.content d0) has.goes.2.content

    pub these_may : MayTurn (course graph has) (g.content d0) (λ m. how_for (m == s)) ms
    these_may = may_first (course graph has) (λ m. how_for (m == s)) ms ns (g.content d0) has.goes.3

    hold : Leaves g d0 d1 (IsOn (course graph has)) → Leaves g d0 d1 (λ c. Holds c graph)
    hold leaves = wider g d0 d1 (IsOn (course graph has)) (λ c. Holds c graph) leaves (λ c on. on_holds (course graph has) c has.goes.1 on)

    module _ (made : Turns graph has) where
      comes : coming (g.content d1) (Some (after_copy r s ns)) ≡ coming (g.content d0) (Some (after_copy r s (ms ++ ns)))
      comes = comes_after r s ms ns (g.content d0) (g.content d1) whole made.content

      abbrev goes : IsGoing g graph d1 k1 (after_copy r s ns)
      goes = record {
        id = has.id;
        object = has.object;
        root_is = has.root_is;
        goes = (has.goes.0, has.goes.1, made.keeps, may_then (course graph has) (λ m. how_for (m == s)) ms ns (g.content d0) (g.content d1) made.content has.goes.3);
        counts = made.counts;
      }

  store : (graph : Graph) (ds : Drafts) (has : HasLeft g graph ds d0 k0 (after_copy r s (ms ++ ns))) → Turns graph has.going → HasLeft g graph ds d1 k1 (after_copy r s ns)
  store graph ds has made = record {
    going = goes graph has.going made;
    owners = has.owners;
    own = has.own;
    opens = open_then has.owners s ms ns (g.content d0) (g.content d1) made.content (λ n there. (let may = has.going.goes.3 n there in subst (λ (o : Option MapEntry). IsSome o) (sym may.1) refl)) has.opens;
    shut = has.shut;
    account = subst (λ (i : Image). Accounts i graph ds) (sym (comes graph has.going made)) has.account;
    ordered = has.ordered;
  }

  pub turned_so : ((graph : Graph) (has : IsGoing g graph d0 k0 (after_copy r s (ms ++ ns))) → Turns graph has) → GoesFrom g d0 d1 k0 k1 (Some (after_copy r s (ms ++ ns))) (Some (after_copy r s ns)) (Ok tt)
  turned_so made = record {
    goes = λ graph has. goes graph has (made graph has);
    comes = λ graph has. comes graph has (made graph has);
    leaves = λ graph has. hold graph has (made graph has).leaves;
    sound = λ graph has. tt;
    store = λ graph ds has. store graph ds has (made graph has.going);
  }

  pub turn_failed : (t : Trouble) → ((graph : Graph) (has : IsGoing g graph d0 k0 (after_copy r s (ms ++ ns))) → Leaves g d0 d1 (IsOn (Settling has.goes.0 graph has.id has.object s)) × (is_damage t ≡ false))
      → GoesFrom g d0 d1 k0 k1 (Some (after_copy r s (ms ++ ns))) (Some (after_copy r s ns)) (Err t)
  turn_failed t tried = record {
    goes = λ graph has. tt;
    comes = λ graph has. tt;
    leaves = λ graph has. hold graph has (tried graph has).0;
    sound = λ graph has. (tried graph has).1;
    store = λ graph ds has. tt;
  }

-- one alone
module _ {D : Type 0} (g : Ghosts D) (d0 d1 : D) (k0 k1 : Kept) (r s n : ℕ) (ns : List ℕ) where
  abbrev turn : MapEntry → MapEntry
  turn e = changed_entry (how_for (n == s)) e

  module _ (graph : Graph) (has : IsGoing g graph d0 k0 (after_copy r s (n ∷ ns))) where
    abbrev w : Course
    w = Settling has.goes.0 graph has.id has.object s

    abbrev may : (e : MapEntry) × (entry_in (g.content d0) n ≡ Some e) × MayPut (Settling has.goes.0 graph has.id has.object s) n e (changed_entry (how_for (n == s)) e)
    may = has.goes.3 n (first_number n ns)

    pub flip_sound : (t : Trouble) → IsMapTrouble g d0 d1 n t → is_damage (trouble_after_try t) ≡ false
    flip_sound t is = no_damage g n d0 d1 w has.goes.1 has.goes.2 may.0 may.1 t is

    one_turns : {A : Type 0} (x : A) → ChangesEntry g n turn d0 d1 (Ok x) → AreCounts (g.content d1) k1 → Turns g d0 d1 k0 k1 r s (n ∷ []) ns graph has
    one_turns x change counts = record {
      content = subst (IsMapped (turned (λ m. how_for (m == s)) (n ∷ [])) (g.content d0)) (sym (change.put has.goes.2.tells may.0 may.1)) (turn_one (λ m. how_for (m == s)) (g.content d0) n may.0 may.1 (put_valid w n may.0 (turn may.0) may.2));
      keeps = change.keeps w may.0 has.goes.1 has.goes.2 may.1 may.2;
      leaves = change.leaves w may.0 has.goes.1 has.goes.2 may.1 may.2;
      counts = counts;
    }

  pub flipped_so : {A : Type 0} (x : A) → ChangesEntry g n turn d0 d1 (Ok x) → (Tells g d0 → AreCounts (g.content d0) k0 → AreCounts (g.content d1) k1)
      → GoesFrom g d0 d1 k0 k1 (Some (after_copy r s (n ∷ ns))) (Some (after_copy r s ns)) (Ok tt)
  flipped_so x change counts = turned_so g d0 d1 k0 k1 r s (n ∷ []) ns (λ graph has. one_turns graph has x change (counts has.goes.2.tells has.counts))

  pub flip_failed : {A : Type 0} (t : Trouble) → ChangesEntry {A = A} g n turn d0 d1 (Err t)
      → GoesFrom g d0 d1 k0 k1 (Some (after_copy r s (n ∷ ns))) (Some (after_copy r s ns)) (Err t)
  flip_failed t change = turn_failed g d0 d1 k0 k1 r s (n ∷ []) ns t (λ graph has. (let one = may graph has in (change.leaves (w graph has) one.0 has.goes.1 has.goes.2 one.1 one.2, still_sound t (flip_sound graph has t change.refused))))

-- ---- the bit

module _ {D : Type 0} (g : Ghosts D) (graph : Graph) (d0 d1 : D) (k0 : Kept) (r s : ℕ) (has : IsGoing g graph d0 k0 (after_copy r s [])) where
  abbrev w_end : Course
  w_end = Settling has.goes.0 graph has.id has.object s

  abbrev end_bit : (e : MapEntry) × (entry_in (g.content d0) has.id.block ≡ Some e) × MayPut (Settling has.goes.0 graph has.id has.object s) has.id.block e (without_bit e)
  end_bit = bit_here has.goes.0 graph has.id has.object (after_copy r s []) has.root_is has.goes.1 (g.content d0) has.goes.2.content

  -- the root is that whose bit is cleared
  abbrev bit : (e : MapEntry) × (entry_in (g.content d0) r ≡ Some e) × MayPut (Settling has.goes.0 graph has.id has.object s) r e (without_bit e)
  bit = subst (λ (n : ℕ). (e : MapEntry) × (entry_in (g.content d0) n ≡ Some e) × MayPut (Settling has.goes.0 graph has.id has.object s) n e (without_bit e)) has.root_is end_bit

  pub clear_leaves : (result : Result (Unit {0}) Trouble) → ChangesBit g r (λ e. changed_entry ClearBit e) d0 d1 result → Leaves g d0 d1 (λ x. Holds x graph)
  clear_leaves result change = wider g d0 d1 (IsOn w_end) (λ x. Holds x graph) (change.leaves w_end bit.0 has.goes.1 has.goes.2 bit.1 bit.2) (λ x on. on_holds w_end x has.goes.1 on)

  pub clear_sound : (t : Trouble) → IsMapTrouble g d0 d1 r t → is_damage (trouble_after_try t) ≡ false
  clear_sound t is = no_damage g r d0 d1 w_end has.goes.1 has.goes.2 bit.0 bit.1 t is

  module _ (change : ChangesBit g r (λ e. changed_entry ClearBit e) d0 d1 (Ok (tt {0}))) where
    pub clear_comes : g.content d1 ≡ coming (g.content d0) (Some (after_copy r s []))
    clear_comes =
        change.put has.goes.2.tells bit.0 bit.1
        ∙ sym (mapped_is (settled (after_copy r s [])) (g.content d0) (with_entry (g.content d0) r (without_bit bit.0)) (whole_on w_end (λ m. how_for (m == s)) has.goes.1 (g.content d0) has.goes.2.content)
        (bit_cleared_at (after_copy r s []) (g.content d0) bit.0 bit.1 bit.2.entry))

    pub clear_goes : Carries g graph d1 × AreCounts (g.content d1) k0
    clear_goes = (let settled = change.settled has.goes.2.tells in (
      carries_ended g w_end d1 has.goes.1 (change.keeps w_end bit.0 has.goes.1 has.goes.2 bit.1 bit.2) settled,
      subst (λ (i : Image). AreCounts i k0) (sym (change.put has.goes.2.tells bit.0 bit.1)) (counts_same (g.content d0) k0 r bit.0 (changed_entry ClearBit bit.0) has.counts bit.1 bit.2.entry refl),
    ))

pub clear_store : {D : Type 0} (g : Ghosts D) (graph : Graph) (ds : Drafts) (d0 d1 : D) (k0 : Kept) (r s : ℕ) → HasLeft g graph ds d0 k0 (after_copy r s []) → ChangesBit g r (λ e. changed_entry ClearBit e) d0 d1 (Ok (tt {0})) → StoreHas g graph ds d1 k0
clear_store g graph ds d0 d1 k0 r s has change =
    let done = clear_goes g graph d0 d1 k0 r s has.going change in
    record {
      carries = done.0;
      account = subst (λ (i : Image). Accounts i graph ds) (sym (clear_comes g graph d0 d1 k0 r s has.going change)) has.account;
      counts = done.1;
      ordered = has.ordered;
    }

-- ---- calls

module _ {D : Type 0} (g : Ghosts D) (d0 d1 : D) where
  abbrev HoldsSo : ℕ → ℕ → Type 0
  HoldsSo r s = (graph : Graph) (id : Puid) (o : Object) → id.block ≡ r → IsSettled g d0 → IsCommitted (g.content d0) graph id o s → Leaves g d0 d1 (λ c. Holds c graph)

  abbrev CopiesSo : ℕ → ℕ → Result (Unit {0}) Trouble → Type 0
  CopiesSo r s result = (graph : Graph) (id : Puid) (o : Object) → id.block ≡ r → IsSettled g d0 → IsCommitted (g.content d0) graph id o s → OnOk result (Copies (g.content d0) (g.content d1) graph id o s)

  module _ (k : Kept) (r s : ℕ) (rest : List ℕ) where
    pub copied_so : (bytes : List ℕ) → block_at (g.content d0) s ≡ bytes → (result : Result (Unit {0}) Trouble) → OnOk result (g.content d1 ≡ set (g.content d0) r bytes) → (Tells g d0 → OnOk result (IsSettled g d1)) → CopiesSo r s result → HoldsSo r s → IfErr result (λ t. t ≡ trouble.Disk true)
        → GoesFrom g d0 d1 k k (Some (before_copy r s rest)) (Some (after_copy r s rest)) result
    copied_so bytes same (Ok u) wrote settled copies holds refused = record {
      goes = λ graph has. copy_goes g graph d0 d1 k r s rest has (copied graph has) content (settled has.goes.0.tells);
      comes = λ graph has. copy_comes g graph d0 d1 k r s rest has (copied graph has) content (settled has.goes.0.tells);
      leaves = λ graph has. copy_leaves g graph d0 d1 k r s rest has holds;
      sound = λ graph has. tt;
      store = λ graph ds has. copy_store g graph ds d0 d1 k r s rest has (copied graph has.going) content (settled has.going.goes.0.tells);
    }
      where
        content : g.content d1 ≡ set (g.content d0) r (block_at (g.content d0) s)
        content = wrote ∙ ap (set (g.content d0) r) (sym same)

        copied : (graph : Graph) (has : IsGoing g graph d0 k (before_copy r s rest)) → Copies (g.content d0) (g.content d1) graph has.id has.object s
        copied graph has = copies graph has.id has.object has.root_is has.goes.0 has.goes.1
    copied_so bytes same (Err t) wrote settled copies holds refused = record {
      goes = λ graph has. tt;
      comes = λ graph has. tt;
      leaves = λ graph has. copy_leaves g graph d0 d1 k r s rest has holds;
      sound = λ graph has. ap is_damage refused;
      store = λ graph ds has. tt;
    }

  module _ (k : Kept) (r s : ℕ) where
    pub cleared_so : (result : Result (Unit {0}) Trouble) → ChangesBit g r (λ e. changed_entry ClearBit e) d0 d1 result → GoesFrom g d0 d1 k k (Some (after_copy r s [])) None result
    cleared_so (Ok u) change = record {
      goes = λ graph has. clear_goes g graph d0 d1 k r s has change;
      comes = λ graph has. clear_comes g graph d0 d1 k r s has change;
      leaves = λ graph has. clear_leaves g graph d0 d1 k r s has (Ok u) change;
      sound = λ graph has. tt;
      store = λ graph ds has. clear_store g graph ds d0 d1 k r s has change;
    }
    cleared_so (Err t) change = record {
      goes = λ graph has. tt;
      comes = λ graph has. tt;
      leaves = λ graph has. clear_leaves g graph d0 d1 k r s has (Err t) change;
      sound = λ graph has. still_sound t (clear_sound g graph d0 d1 k r s has t change.refused);
      store = λ graph ds has. tt;
    }

-- ---- counts

module _ (image : Image) (k : Kept) (n : ℕ) (was now : MapEntry) (counts : AreCounts image k) (here : entry_in image n ≡ Some was) (is : IsEntry now) where
  pub freed_counts : is_freed was now ≡ true → AreCounts (with_entry image n now) (after_giving k n 1)
  freed_counts freed = elim (cases_Bool (is_free was)) [
    | inl free ↦ (let no : false ≡ true = sym (ap (λ (b : Bool). cond b false (is_free now)) free) ∙ freed in cc)
    | inr held ↦ (counts_given image k n was now counts here is held (sym (ap (λ (b : Bool). cond b false (is_free now)) held) ∙ freed)).0
  ]

  pub kept_counts : (is_free was ≡ true → is_free now ≡ true) → is_freed was now ≡ false → AreCounts (with_entry image n now) k
  kept_counts stays not = counts_same image k n was now counts here is (elim (cases_Bool (is_free was)) [
    | inl free ↦ stays free ∙ sym free
    | inr held ↦ sym (ap (λ (b : Bool). cond b false (is_free now)) held) ∙ not ∙ sym held
  ])

-- ---- which part is next

module _ (l : LeftCommit) where
  pub part_flip : (n : BlockNo) → parts_are.Flip n ≡ next_part_of l → (ns : List ℕ) × (l.copied ≡ true) × (l.rest ≡ n.0 ∷ ns) × (after_part l ≡ Some (record l { rest = ns }))
  part_flip n is = at l.copied l.rest refl refl is
    where
      at : (b : Bool) (rest : List ℕ) → l.copied ≡ b → l.rest ≡ rest → parts_are.Flip n ≡ next_part_in l b rest → (ns : List ℕ) × (l.copied ≡ true) × (l.rest ≡ n.0 ∷ ns) × (after_part l ≡ Some (record l { rest = ns }))
      at false rest eb er is = cc
      at true [] eb er is = cc
      at true (m ∷ ms) eb er is = let n_is : n ≡ block_no m = cc in
          (ms, eb, er ∙ ap (λ (x : ℕ). x ∷ ms) (sym (ap (λ (b : BlockNo). b.0) n_is)), ap (λ (b : Bool). after_in l b l.rest) eb ∙ ap (λ (x : List ℕ). after_in l true x) er)

  pub part_clear : (r : BlockNo) → parts_are.Clear r ≡ next_part_of l → (l.copied ≡ true) × (l.rest ≡ []) × (l.root ≡ r.0) × (after_part l ≡ None)
  part_clear r is = at l.copied l.rest refl refl is
    where
      at : (b : Bool) (rest : List ℕ) → l.copied ≡ b → l.rest ≡ rest → parts_are.Clear r ≡ next_part_in l b rest → (l.copied ≡ true) × (l.rest ≡ []) × (l.root ≡ r.0) × (after_part l ≡ None)
      at false rest eb er is = cc
      at true [] eb er is = let r_is : r ≡ block_no l.root = cc in
          (eb, er, sym (ap (λ (b : BlockNo). b.0) r_is), ap (λ (b : Bool). after_in l b l.rest) eb ∙ ap (λ (x : List ℕ). after_in l true x) er)
      at true (m ∷ ms) eb er is = cc

pub next_is : (w : Option LeftCommit) (part : Part) → option_map (λ l. next_part_of l) w ≡ Some part → (l : LeftCommit) × (w ≡ Some l) × (part ≡ next_part_of l)
next_is None part is = cc
next_is (Some l) part is = (l, refl, sym (same_Some _ _ is))
