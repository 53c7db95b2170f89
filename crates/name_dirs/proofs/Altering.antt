-- Each request that changes an object.
use Rattle.std.proofs.Common.{◌≡◌, inl, ℕ, zero, suc, ◌+◌, ◌-◌, ◌*◌, ◌/◌, ◌<◌, ◌≤◌, Bool, true, false, Option, Some, None, List, [], ◌∷◌, refl, sym, ap, subst, arith, ◌||◌, ◌==◌, not, length, if◌then◌else◌}
use Rattle.std.specs.Prelude.{Err, Result, is_none, is_some, nat_le, nat_lt}
use Rattle.std.proofs.lemmas.Bool.{and_parts, not-true}
use Rattle.std.proofs.lemmas.Bool.Decides.{nat_tests}
use Rattle.std.proofs.lemmas.List.FromFn.{length-range_with_len}
use Rattle.cfs_base.specs.declared.identifier.Puid.{Puid}
use Rattle.cfs_base.specs.declared.kind.FileKind.{FileKind}
use Rattle.cfs_base.specs.declared.kind.FileKind.TheVariants as kinds
use Rattle.ufs_model.specs.declared.asked.Ref.TheVariants.{Direct}
use Rattle.ufs_model.specs.declared.change.Change.TheVariants.{Fill}
use Rattle.ufs_model.specs.declared.asked.Reply.{Reply}
use Rattle.ufs_model.specs.declared.asked.Reply.TheVariants as replies
use Rattle.ufs_model.specs.declared.asked.Request.{Request}
use Rattle.ufs_model.specs.declared.asked.Request.TheVariants as asks
use Rattle.ufs_model.specs.declared.asker.Asker.{Ghosts}
use Rattle.ufs_model.specs.declared.collection.Collection.{Collection}
use Rattle.ufs_model.specs.declared.collection.Collection.TheVariants as collections
use Rattle.ufs_model.specs.declared.object.File.{File}
use Rattle.ufs_model.specs.declared.object.Index.{Index}
use Rattle.ufs_model.specs.declared.object.Object.{Object}
use Rattle.ufs_model.specs.declared.object.Object.TheVariants as objects
use Rattle.ufs_model.specs.Asks.{IsAsked, IsExactIn}
use Rattle.ufs_model.specs.Graph.{Graph, has_block, is_free_root, is_there, object_at, with_object}
use Rattle.ufs_model.specs.Limits.{most_bytes, most_slots}
use Rattle.ufs_model.specs.Need.{change_need, need_of}
use Rattle.ufs_model.specs.Next.{is_sweeping}
use Rattle.ufs_model.specs.Numbers.{branches, lacking, missing, parents}
use Rattle.ufs_model.specs.Object.{blocks_of, filled, inner_levels, leaf_of_slot, leaves_in, new_index, resized, slot_of, touched, written}
use Rattle.ufs_model.specs.Outcome.{created, creates, outcome_of, with_edge}
use Rattle.ufs_model.specs.Refusal.{is_open, is_range, refusal_of}
use Rattle.ufs_model.specs.State.{State, is_running}
use Rattle.ufs_model.specs.Word.{word}
use Rattle.ufs_model.proofs.RootBlocks.{has_block-there}
use Rattle.ufs_model.proofs.Takes.{filled_takes, written_takes}
use Rattle.name_dirs.specs.declared.fault.DirFault.{DirFault}
use Rattle.name_dirs.specs.declared.fault.DirFault.TheVariants as faults
use Rattle.name_dirs.specs.Chain.{Start}
use Rattle.name_dirs.specs.Changing.{Alters, IsAlterFault, IsPutNew, done_told, id_told, new_table}
use Rattle.name_dirs.specs.Directory.{is_special}
use Rattle.name_dirs.specs.Faults.{after_fault}
use Rattle.name_dirs.proofs.Altered.{IsDone, alters, done_tells, id_tells, keeps_made, keeps_put}
use Rattle.name_dirs.proofs.Chains.{keeps_same}

-- ---- what is written anew for one leaf: it, and a block of each level above

levels_few : (o : Object) → inner_levels o ≤ 2
levels_few o = omega arith

lacking_none : (ns : List ℕ) → lacking ns [] ≡ ns
lacking_none [] = refl
lacking_none (n ∷ ns) = ap (λ l. n ∷ l) (lacking_none ns)

few_parents : (ns : List ℕ) → length ns ≤ 1 → length (parents ns) ≤ 1
few_parents [] few = omega arith
few_parents (n ∷ []) few = omega arith
few_parents (n ∷ m ∷ ns) few = absurd (omega (arith, few))

few_missing : (levels : ℕ) (ns : List ℕ) → length ns ≤ 1 → missing (branches levels ns) [] ≤ levels + 1
few_missing zero ns few = omega (arith, few, ap (λ (l : List ℕ). length l) (lacking_none ns))
few_missing (suc levels) ns few = omega (arith, few, ap (λ (l : List ℕ). length l) (lacking_none ns), few_missing levels (parents ns) (few_parents ns few))

-- a row lies in one leaf, since 64 divides 512
one_leaf : (k : ℕ) → length (touched (64 * k) 64) ≤ 1
one_leaf k = let n = length-range_with_len (64 * k / 512) (leaves_in (64 * k + 64) - 64 * k / 512) in omega (arith, n)

special_is : (kind : FileKind) → is_special kind ≡ true → kind ≡ kinds.Special
special_is kinds.Special h = refl
special_is kinds.Normal h = cc h

edge_sweeps : (d id : Puid) (c : Collection) → is_sweeping (with_edge (Some d) id c) ≡ is_sweeping c
edge_sweeps d id collections.None = refl
edge_sweeps d id (collections.Marking pairs starts) = refl
edge_sweeps d id collections.Sweeping = refl

-- an identifier with a free root block is a new one
free_is_new : (g : Graph) (id : Puid) → is_free_root g id.block ≡ true → is_there g id ≡ false
free_is_new g id free = by (object_at g id) refl
  where
    by : (o : Option Object) → object_at g id ≡ o → is_some o ≡ false
    by None at = refl
    by (Some o) at = let has = has_block-there id g.objects o at in let two = and_parts (not (id.block == 0)) (not (has_block g.objects id.block)) free in cc (has, not-true _ two.1)

-- ---- refusals

pub locked_only : (locked : Bool) (r : Reply) (o : Option Reply) → o ≡ (if locked then Some replies.Locked else None) → o ≡ Some r → (locked ≡ true) × (r ≡ replies.Locked)
locked_only true r o is told = (refl, cc (is, told))
locked_only false r o is told = cc (is, told)

-- ---- each request

module _ {A : Type 0} (g : Ghosts A) (who : ℕ) (a b : A) (s : State) (x : Puid) (runs : is_running s ≡ true) where
  abbrev Fault : (most : ℕ) (also : Option Puid) → State → DirFault → Type 0
  Fault most also t fault = IsAlterFault (g.cylinders a) most also s x t fault

  abbrev Asks : Request → Reply → Type 0
  Asks request reply = g.asked a who request reply b × IsAsked (g.stands b) (g.seed a) s who request reply × IsExactIn (g.cylinders a) s request reply

  -- what is done puts one object in the place of another
  done_put : (request : Request) (old new : Object) → object_at s.graph x ≡ Some old → blocks_of old ≤ blocks_of new → (Made : Graph → Type 0) → Made (with_object s.graph x new) → (reply : Reply) (t : State) → reply ≡ replies.Done
      → t.graph ≡ with_object s.graph x new → t.grants ≡ s.grants → is_sweeping t.collection ≡ is_sweeping s.collection → t.stopped ≡ s.stopped → IsDone s x done_told (λ u. Made) reply t
  done_put request old new at more Made made reply t is graph grants sweeps stopped = record {
    answer = tt;
    tells = rw is refl;
    made = rw graph made;
    graph = rw graph (keeps_put s.graph x new (λ before found. let same : old ≡ before = cc (at, found) in subst (λ (o : Object). blocks_of o ≤ blocks_of new) same more));
    grants = grants;
    sweeps = sweeps;
    stopped = stopped;
  }

  locked_so : (most : ℕ) (also : Option Puid) {E : Type 0} (tell : Reply → Result E DirFault) → tell replies.Locked ≡ Err (faults.Asked replies.Locked) → (request : Request) → refusal_of s who request ≡ (if is_open s x then Some replies.Locked else None)
      → (r : Reply) → refusal_of s who request ≡ Some r → (tell r ≡ Err (faults.Asked r)) × ((t : State) → t ≡ s → (t ≡ after_fault (faults.Asked r) s) × Fault most also t (faults.Asked r))
  locked_so most also tell tells request is r told = let two = locked_only (is_open s x) r (refusal_of s who request) is told in rw two.1 (tells, λ t to. (to, two.0))

  module _ (i : Index) (slot : ℕ) (at : object_at s.graph x ≡ Some (objects.Index i)) (within : slot < length i.slots) where
    inside : nat_le (length i.slots) slot ≡ false
    inside = grind (arith, nat_tests)

    module _ (id : Puid) where
      abbrev retain : Request
      retain = asks.Retain (Direct x) slot id

      abbrev kept : Index
      kept = filled i slot (Some id)

      retain_refused : (r : Reply) → refusal_of s who retain ≡ Some r → (done_told r ≡ Err (faults.Asked r)) × ((t : State) → t ≡ s → (t ≡ after_fault (faults.Asked r) s) × Fault 4 (Some id) t (faults.Asked r))
      retain_refused r told = by (is_there s.graph id) (is_open s x) refl refl
        where
          by : (there locked : Bool) → is_there s.graph id ≡ there → is_open s x ≡ locked → (done_told r ≡ Err (faults.Asked r)) × ((t : State) → t ≡ s → (t ≡ after_fault (faults.Asked r) s) × Fault 4 (Some id) t (faults.Asked r))
          by false locked is bars = let none : refusal_of s who retain ≡ Some replies.NoObject = rw (at, is) refl in let same : r ≡ replies.NoObject = cc (told, none) in rw same (refl, λ t to. (to, is))
          by true true is bars = let none : refusal_of s who retain ≡ Some replies.Locked = rw (at, is, bars) refl in let same : r ≡ replies.Locked = cc (told, none) in rw same (refl, λ t to. (to, bars))
          by true false is bars = let none : refusal_of s who retain ≡ None = rw (at, is, bars, inside) refl in cc (told, none)

      retain_there : refusal_of s who retain ≡ None → is_there s.graph id ≡ true
      retain_there none = by (is_there s.graph id) refl
        where
          by : (there : Bool) → is_there s.graph id ≡ there → there ≡ true
          by true is = refl
          by false is = let told : refusal_of s who retain ≡ Some replies.NoObject = rw (at, is) refl in cc (told, none)

      retain_need : need_of s who retain ≤ 4
      retain_need =
          let n : need_of s who retain ≡ missing (branches (inner_levels (objects.Index i)) (leaf_of_slot slot ∷ [])) [] + 1 = rw at refl in
          omega (arith, n, few_missing (inner_levels (objects.Index i)) (leaf_of_slot slot ∷ []) (omega arith), levels_few (objects.Index i))

      abbrev Kept : Graph → Type 0
      Kept h = (is_there s.graph id ≡ true) × (h ≡ with_object s.graph x (objects.Index kept))

      pub retains : (reply : Reply) → Asks retain reply → Alters g who s x (λ u. Kept) (Fault 4 (Some id)) a b (done_told reply)
      retains reply told = alters g who a b s x retain reply done_told (λ u. Kept) 4 (Some id) runs (done_tells s)
          (λ n none free. done_put retain (objects.Index i) (objects.Index kept) at (filled_takes i slot (Some id)) Kept (retain_there none, refl) _ _ refl (rw at refl) refl (edge_sweeps x id s.collection) refl)
          retain_refused retain_need told.0 told.1 told.2

    abbrev delete : Request
    delete = asks.Delete (Direct x) slot

    pub empties : is_some (slot_of i slot) ≡ true → (reply : Reply) → Asks delete reply → Alters g who s x (λ u h. h ≡ with_object s.graph x (objects.Index (filled i slot None))) (Fault 4 None) a b (done_told reply)
    empties some reply told = alters g who a b s x delete reply done_told (λ u h. h ≡ with_object s.graph x (objects.Index (filled i slot None))) 4 None runs (done_tells s)
        (λ n none free. done_put delete (objects.Index i) (objects.Index (filled i slot None)) at (filled_takes i slot None) (λ h. h ≡ with_object s.graph x (objects.Index (filled i slot None))) refl _ _ refl (rw at refl) refl refl refl)
        (locked_so 4 None done_told refl delete (by (is_open s x) refl)) need told.0 told.1 told.2
      where
        held : is_none (slot_of i slot) ≡ false
        held = off (slot_of i slot) some
          where
            off : (o : Option Puid) → is_some o ≡ true → is_none o ≡ false
            off None h = cc h
            off (Some id) h = refl

        by : (locked : Bool) → is_open s x ≡ locked → refusal_of s who delete ≡ (if locked then Some replies.Locked else None)
        by true bars = rw (at, bars) refl
        by false bars = rw (at, bars, inside, held) refl

        need : need_of s who delete ≤ 4
        need =
            let n : need_of s who delete ≡ missing (branches (inner_levels (objects.Index i)) (leaf_of_slot slot ∷ [])) [] + 1 = rw at refl in
            omega (arith, n, few_missing (inner_levels (objects.Index i)) (leaf_of_slot slot ∷ []) (omega arith), levels_few (objects.Index i))

    abbrev MadeIn : Object → Puid → Graph → Type 0
    MadeIn o id h = IsPutNew s.graph x i slot o id h

    -- a new object in the slot
    module _ (o : Object) (request : Request) (makes : (seed n : ℕ) → outcome_of seed s who request n ≡ created seed s who (Direct x) slot o n)
        (needs : need_of s who request ≡ 1 + change_need s who (Direct x) (Fill slot None)) (creates_one : creates request ≡ true)
        (refusal : refusal_of s who request ≡ (if is_open s x then Some replies.Locked else None)) where
      module _ (seed n : ℕ) (free : creates request ≡ true → is_free_root s.graph n ≡ true) where
        abbrev id : Puid
        id = record { block = n; word = word seed (s.drawn + 1) }

        new : is_there s.graph id ≡ false
        new = free_is_new s.graph id (free creates_one)

        graph : (created seed s who (Direct x) slot o n).1.graph ≡ with_object (with_object s.graph id o) x (objects.Index (filled i slot (Some id)))
        graph = rw at refl

        made_so : IsDone s x id_told (MadeIn o) (created seed s who (Direct x) slot o n).0 (created seed s who (Direct x) slot o n).1
        made_so = record {
          answer = id;
          tells = refl;
          made = (new, graph);
          graph = rw graph (keeps_made s.graph id o x (objects.Index i) (objects.Index (filled i slot (Some id))) new at (filled_takes i slot (Some id)));
          grants = refl;
          sweeps = edge_sweeps x id s.collection;
          stopped = refl;
        }

        done_new : IsDone s x id_told (MadeIn o) (outcome_of seed s who request n).0 (outcome_of seed s who request n).1
        done_new = subst (λ (out : Reply × State). IsDone s x id_told (MadeIn o) out.0 out.1) (sym (makes seed n)) made_so

      need_new : need_of s who request ≤ 5
      need_new =
          let n : change_need s who (Direct x) (Fill slot None) ≡ missing (branches (inner_levels (objects.Index i)) (leaf_of_slot slot ∷ [])) [] + 1 = rw at refl in
          omega (arith, n, needs, few_missing (inner_levels (objects.Index i)) (leaf_of_slot slot ∷ []) (omega arith), levels_few (objects.Index i))

      pub puts_new : (reply : Reply) → Asks request reply → Alters g who s x (MadeIn o) (Fault 5 None) a b (id_told reply)
      puts_new reply told = alters g who a b s x request reply id_told (MadeIn o) 5 None runs (id_tells s) (λ n none free. done_new (g.seed a) n free)
          (locked_so 5 None id_told refl request refusal) need_new told.0 told.1 told.2

    pub creates_index : (slots : ℕ) → 1 ≤ slots → slots ≤ most_slots → (reply : Reply) → Asks (asks.CreateIndex slots (Direct x) slot) reply
        → Alters g who s x (MadeIn (objects.Index (new_index slots))) (Fault 5 None) a b (id_told reply)
    creates_index slots some few = puts_new (objects.Index (new_index slots)) (asks.CreateIndex slots (Direct x) slot) (λ seed n. refl) refl refl (by (is_open s x) refl)
      where
        ranged : ((slots == 0) || nat_lt most_slots slots) ≡ false
        ranged = grind (arith, nat_tests)

        by : (locked : Bool) → is_open s x ≡ locked → refusal_of s who (asks.CreateIndex slots (Direct x) slot) ≡ (if locked then Some replies.Locked else None)
        by true bars = rw (at, bars) refl
        by false bars = rw (at, bars, inside, ranged) refl

    pub creates_table : (reply : Reply) → Asks (asks.CreateFile kinds.Special 0 (Direct x) slot) reply → Alters g who s x (MadeIn (objects.File new_table)) (Fault 5 None) a b (id_told reply)
    creates_table = puts_new (objects.File new_table) (asks.CreateFile kinds.Special 0 (Direct x) slot) (λ seed n. refl) refl refl (by (is_open s x) refl)
      where
        by : (locked : Bool) → is_open s x ≡ locked → refusal_of s who (asks.CreateFile kinds.Special 0 (Direct x) slot) ≡ (if locked then Some replies.Locked else None)
        by true bars = rw (at, bars) refl
        by false bars = rw (at, bars, inside) refl

  module _ (f : File) (at : object_at s.graph x ≡ Some (objects.File f)) (special : is_special f.kind ≡ true) where
    kind : f.kind ≡ kinds.Special
    kind = special_is f.kind special

    module _ (k : ℕ) (row : List ℕ) (size : length row ≡ 64) (within : 64 * k + 64 ≤ length f.bytes) where
      abbrev write : Request
      write = asks.Write (Direct x) (64 * k) row

      abbrev now : File
      now = written f (64 * k) row

      spans : is_range (length f.bytes) (64 * k) (length row) ≡ true
      spans = rw size (let some : nat_le (64 * k + 64) (length f.bytes) ≡ true = grind (arith, nat_tests) in rw some refl)

      write_refused : (locked : Bool) → is_open s x ≡ locked → refusal_of s who write ≡ (if locked then Some replies.Locked else None)
      write_refused true bars = rw (at, bars) refl
      write_refused false bars = rw (at, bars, spans) refl

      write_need : need_of s who write ≤ 4
      write_need =
          let n : need_of s who write ≡ missing (branches (inner_levels (objects.File f)) (touched (64 * k) (length row))) [] + 1 = rw (at, kind) refl in
          let leaves : length (touched (64 * k) (length row)) ≤ 1 = rw size (one_leaf k) in
          omega (arith, n, few_missing (inner_levels (objects.File f)) (touched (64 * k) (length row)) leaves, levels_few (objects.File f))

      abbrev Written : Graph → Type 0
      Written h = h ≡ with_object s.graph x (objects.File now)

      pub writes_row : (reply : Reply) → Asks write reply → Alters g who s x (λ u. Written) (Fault 4 None) a b (done_told reply)
      writes_row reply told = alters g who a b s x write reply done_told (λ u. Written) 4 None runs (done_tells s)
          (λ n none free. done_put write (objects.File f) (objects.File now) at (written_takes f (64 * k) row) Written refl _ _ refl (rw at refl) refl refl refl)
          (locked_so 4 None done_told refl write (write_refused (is_open s x) refl)) write_need told.0 told.1 told.2

    module _ (size : ℕ) (more : length f.bytes ≤ size) (few : size ≤ most_bytes) (takes : blocks_of (objects.File f) ≤ blocks_of (objects.File (resized f size))) where
      abbrev resize : Request
      resize = asks.Resize (Direct x) size

      ranged : nat_lt most_bytes size ≡ false
      ranged = grind (arith, nat_tests)

      resize_refused : (locked : Bool) → is_open s x ≡ locked → refusal_of s who resize ≡ (if locked then Some replies.Locked else None)
      resize_refused true bars = rw (at, bars) refl
      resize_refused false bars = rw (at, bars, ranged) refl

      longer : nat_le (length f.bytes) size ≡ true
      longer = grind (arith, nat_tests)

      resize_need : need_of s who resize ≤ 4
      resize_need = let n : need_of s who resize ≡ 1 = rw (at, kind, longer) refl in omega (arith, n)

      abbrev Lengthened : Graph → Type 0
      Lengthened h = h ≡ with_object s.graph x (objects.File (resized f size))

      pub lengthens : (reply : Reply) → Asks resize reply → Alters g who s x (λ u. Lengthened) (Fault 4 None) a b (done_told reply)
      lengthens reply told = alters g who a b s x resize reply done_told (λ u. Lengthened) 4 None runs (done_tells s)
          (λ n none free. done_put resize (objects.File f) (objects.File (resized f size)) at takes Lengthened refl _ _ refl (rw at refl) refl refl refl)
          (locked_so 4 None done_told refl resize (resize_refused (is_open s x) refl)) resize_need told.0 told.1 told.2

-- nothing was asked for want of memory
pub starved : {A E : Type 0} (g : Ghosts A) (who : ℕ) (a : A) (s : State) (x : Puid) (Made : E → Graph → Type 0) (most : ℕ) (also : Option Puid) → g.stands a s → Alters g who s x Made (IsAlterFault (g.cylinders a) most also s x) a a (Err faults.Memory)
starved g who a s x Made most also stands = record {
  after = s;
  calls = record { stands = stands; chain = Start (inl refl); graph = keeps_same (x ∷ []) s.graph s.graph refl; grants = refl; sweeps = refl };
  told = (refl, tt);
}
