-- What is left of a commit just past its bit.
use Rattle.std.proofs.Common.{◌≡◌, ℕ, Bool, List, [], ◌∷◌, ◌++◌, set, Option, Some, None, refl, sym, ◌∙◌, ap, subst}
use Rattle.std.specs.Prelude.{◌==◌, IsSome, option_to_list, ◌<◌}
use Rattle.std.proofs.lemmas.Bool.{eq-eqb, ne_eqb}
use Rattle.std.specs.List.{All}
use Rattle.std.proofs.lemmas.List.Elements.{All-append, All-cons, All-nil}
use Rattle.cfs_base.specs.Disk.{Image, block_at}
use Rattle.cfs_base.specs.Run.{IsSettled}
use Rattle.cfs_base.specs.declared.disk.Disk.{Ghosts}
use Rattle.cfs_base.specs.declared.identifier.Puid.{Puid}
use Rattle.cyl_alloc.specs.Left.{LeftCommit}
use Rattle.cyl_alloc.specs.Space.{AreCounts, Kept}
use Rattle.cyl_map.specs.Entry.{IsEntry}
use Rattle.cyl_map.specs.Volume.{entry_in, with_entry}
use Rattle.cyl_map.specs.declared.entry.MapEntry.{MapEntry}
use Rattle.cyl_map.proofs.Mapped.{mapped_is, mapped_one, mapped_then}
use Rattle.intentions.specs.Commit.{IsCommitted}
use Rattle.intentions.specs.Course.{Settling}
use Rattle.intentions.specs.Entries.{with_bit}
use Rattle.intentions.specs.Left as left
use Rattle.intentions.specs.Left.{AreOpen, IsGoing, coming, how_left}
use Rattle.cyl_map.specs.Mapped.{IsMapped, mapped}
use Rattle.intentions.specs.Turned.{MayTurn, changed_if, turned}
use Rattle.intentions.specs.declared.change.EntryChange.TheVariants.{Release, SetBit}
use Rattle.special_files.proofs.commit.CommitWhole as whole
use Rattle.special_files.specs.Committing.{IsAtBit, IsReady, bit_set}
use Rattle.ufs_model.specs.Graph.{Graph, with_object}
use Rattle.ufs_model.specs.declared.object.Object.{Object}
use Rattle.vol_owners.specs.Change.{IsOpenTo, of_owners}

abbrev pub rest_of : (taken dropped : List ℕ) → Option ℕ → ℕ → List ℕ
rest_of taken dropped created s = taken ++ (dropped ++ (option_to_list created ++ s ∷ []))

module _ {a : Image} {full : Graph} {id : Puid} {was o : Object} {s : ℕ} {taken dropped : List ℕ} {created : Option ℕ} (ready : IsReady a full id was o s taken dropped created) where
  -- the bit in the image of the plan
  bit_turns : IsMapped (λ n e. changed_if (n == id.block) SetBit e) (whole.a1 ready) (whole.a2 ready)
  bit_turns =
      let f = λ (n : ℕ) (e : MapEntry). changed_if (n == id.block) SetBit e in
      let root = (whole.a1_root ready).taken in
      let same : changed_if (id.block == id.block) SetBit root.is ≡ with_bit root.is = ap (λ (t : Bool). changed_if t SetBit root.is) (eq-eqb id.block id.block refl) in
      subst (λ (e : MapEntry). IsMapped f (whole.a1 ready) (with_entry (whole.a1 ready) id.block e)) same
      (mapped_one f (whole.a1 ready) id.block root.is root.here (subst IsEntry (sym same) (whole.bit_valid_at ready)) (λ m e other. ap (λ (t : Bool). changed_if t SetBit e) (ne_eqb m id.block other)))

  pub bit_is : bit_set a id.block dropped ≡ whole.a2 ready
  bit_is = mapped_is _ a (whole.a2 ready) (whole.whole ready) (mapped_then (turned (λ m. Release) dropped) (λ n e. changed_if (n == id.block) SetBit e) a (whole.a1 ready) (whole.a2 ready) (whole.a1_turns ready) bit_turns)

  module _ {D : Type 0} (g : Ghosts D) (d : D) (k : Kept) (content : g.content d ≡ bit_set a id.block dropped) (settled : IsSettled g d) (counts : AreCounts (g.content d) k) where
    now_is : g.content d ≡ whole.a2 ready
    now_is = content ∙ bit_is

    copied_is : set (g.content d) id.block (block_at (g.content d) s) ≡ whole.a3 ready
    copied_is = ap (λ (i : Image). set i id.block (block_at i s)) now_is

    -- the image that is to come is that of the whole commit
    pub comes_to : coming (g.content d) (Some (whole.left ready)) ≡ whole.b4 ready
    comes_to = ap (mapped (left.settled (whole.left ready))) copied_is

    pub open_begins : AreOpen (id.block ∷ option_to_list created) (g.content d) (whole.rest ready)
    open_begins n there = subst (λ (i : Image). IsOpenTo (λ e. of_owners (id.block ∷ option_to_list created) e) (entry_in i n)) (sym now_is)
        (subst (IsOpenTo (λ e. of_owners (id.block ∷ option_to_list created) e)) ((whole.copy ready).entries n) (whole.all_open ready n there))

    pub going_begins : IsGoing g (with_object full id o) d k (whole.left ready)
    going_begins = record {
      id = id;
      object = o;
      root_is = refl;
      goes = (
        settled,
        subst (λ (i : Image). IsCommitted i (with_object full id o) id o s) (sym now_is) (whole.bit ready).committed,
        subst (λ (i : Image). MayTurn (Settling i (with_object full id o) id o s) i (how_left (whole.left ready)) (whole.rest ready)) (sym copied_is) (whole.all_may ready),
      );
      counts = counts;
    }

-- ---- on any disk

-- all of them lie on a disk on which the parts do
pub all_near : (size : ℕ) (taken dropped : List ℕ) (created : Option ℕ) (s : ℕ) → All (λ n. n < size) taken → All (λ n. n < size) dropped → ((n : ℕ) → created ≡ Some n → n < size) → s < size → All (λ n. n < size) (rest_of taken dropped created s)
all_near size taken dropped created s near1 near2 near3 below =
    let P = λ (n : ℕ). n < size in
    All-append P taken (dropped ++ (option_to_list created ++ s ∷ [])) near1 (All-append P dropped (option_to_list created ++ s ∷ []) near2 (All-append P (option_to_list created) (s ∷ []) (one created near3) (All-cons P s [] below (All-nil P))))
  where
    one : (c : Option ℕ) → ((n : ℕ) → c ≡ Some n → n < size) → All (λ n. n < size) (option_to_list c)
    one None near = All-nil (λ n. n < size)
    one (Some n) near = All-cons (λ m. m < size) n [] (near n refl) (All-nil (λ m. m < size))

-- where none is unfinished nothing is owed
pub none_unfinished : {D : Type 0} (g : Ghosts D) (old new : D) (left : Option LeftCommit) → left ≡ None → IsAtBit g old new left
none_unfinished g old new left none = record { tried = λ some. absurd (no some); settled = λ some. absurd (no some) }
  where
    no : IsSome left → ⊥
    no some = let is = subst (λ (w : Option LeftCommit). IsSome w) none some in cc
