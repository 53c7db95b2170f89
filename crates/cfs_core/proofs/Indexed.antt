-- What is asked of an index through a grant with a draft, whatever is left of a commit.
use Rattle.std.proofs.Common.{◌≡◌, inl, inr, ℕ, ◌/◌, ◌==◌, ◌||◌, length, Bool, true, false, is_none, not, Option, Some, None, Result, Ok, Err, IsTrue, refl, sym, ◌∙◌, ap, subst, nat_le, nat_lt, arith, IfOk}
use Rattle.cfs_base.proofs.Went.{reads_none}
use Rattle.cfs_core.proofs.Words.{AnIndex, Draft, draft_of, Drafting, FileKind, Ghosts, Image, Index, index_to_leaves, is_draft_of, is_id, is_reading, is_there, nat_tests, Object, object_at, Puid, refusal_of, Refused, Reply, Request, slot_of, State, Through, Tuid}
use Rattle.special_files.specs.Fills.{is_empty_already}
use Rattle.cyl_alloc.specs.Left.{LeftCommit}
use Rattle.ufs_model.specs.Limits.{most_slots}
use Rattle.ufs_model.specs.declared.asked.Reply.TheVariants as replies
use Rattle.ufs_model.specs.declared.asked.Request.TheVariants as asks
use Rattle.ufs_model.specs.declared.object.Object.TheVariants as objects
use Rattle.cfs_core.specs.Calls.{Tries, looked}
use Rattle.cfs_core.specs.Drafts.{IsDrafted, LooksInDraft}
use Rattle.cfs_core.specs.Kernel.{Kernel}
use Rattle.cfs_core.specs.Looks.{counted}
use Rattle.cfs_core.specs.StandsFor.{ServesIs, ServesWith}
use Rattle.cfs_core.proofs.Answering.{refused, seen as told, tries_so}
use Rattle.cfs_core.proofs.Views.{IsHeld, draft_seen, so, FindsGrant, the_one}
use Rattle.cfs_core.proofs.Fitting.{fit_there, held, tries_unseen}
use Rattle.cfs_core.proofs.Reached.{had, writes_by}
use Rattle.cfs_core.proofs.Refusing.{IsSeen, index_there}

-- the draft of an index is one
index_in : (i : Index) (d : Object) → is_draft_of (objects.Index i) d ≡ true → (e : Index) × (d ≡ objects.Index e)
index_in i (objects.Index e) is = (e, refl)
index_in i (objects.File f) is = cc

-- ---- a draft of an index

module _ {D : Type 0} {w : Option LeftCommit} (g : Ghosts D) (who : ℕ) (t : Tuid) (law : FindsGrant who t) (k : Kernel D) (drafted : IsDrafted k AnIndex who t) (s : State) (serves : ServesWith g k s w) where
  abbrev was : Drafting
  was = drafted.drafting

  abbrev it : IsHeld g k s who t was
  it = held g who t law k drafted s serves

  own : (i : Index) × (it.object ≡ objects.Index i)
  own = index_there it.object (fit_there g who t law k drafted s serves)

  there : object_at s.graph it.x.id ≡ Some (objects.Index own.0)
  there = it.there_x ∙ ap (λ (y : Object). Some y) own.1

  pub index : (i : Index) × (it.before.object ≡ objects.Index i)
  index = index_in own.0 it.before.object (subst (λ (o : Object). is_draft_of o it.before.object ≡ true) own.1 (so g k s serves who t was it))

  abbrev i : Index
  i = index.0

  -- its slots are told by the root that the object is to get
  pub slots_are : length i.slots ≡ was.root.size / 8
  slots_are = (index_to_leaves was.root _ i ((had g k s serves who t was it).tree.object ∙ index.1)).size

  pub of_index : (d : Draft) → draft_of s who (Through t) ≡ Some d → d.object ≡ objects.Index i
  of_index d has = ap (λ (e : Draft). e.object) (the_one it d has) ∙ index.1

  -- ---- what is asked of it

  pub slots_told : (seed : ℕ) → IsSeen seed s who (asks.Slots (Through t)) (counted i)
  slots_told seed = inr (rw (it.found, there) refl, λ b. rw (it.found, it.draft_was, index.1) refl)

  pub retrieve_told : (seed slot : ℕ) → IsSeen seed s who (asks.Retrieve (Through t) slot) (looked i slot)
  retrieve_told seed slot = at (nat_le (length i.slots) slot) (slot_of i slot) refl refl
    where
      at : (b : Bool) (o : Option Puid) → nat_le (length i.slots) slot ≡ b → slot_of i slot ≡ o → IsSeen seed s who (asks.Retrieve (Through t) slot) (looked i slot)
      at true o is what = inl (rw (it.found, there, it.draft_was, index.1, is) refl)
      at false None is what = inl (rw (it.found, there, it.draft_was, index.1, is, what) refl)
      at false (Some id) is what = inr (rw (it.found, there, it.draft_was, index.1, is, what) refl, λ b. rw (it.found, it.draft_was, index.1, is, what) refl)

  writes : is_reading it.x.mode ≡ false
  writes = writes_by g k s serves who t was it

  past : (slot : ℕ) (b : Bool) → nat_lt slot (was.root.size / 8) ≡ b → nat_le (length i.slots) slot ≡ not b
  past slot b is = ap (λ (n : ℕ). nat_le n slot) slots_are ∙ turned slot (was.root.size / 8) b is
    where
      turned : (a n : ℕ) (b : Bool) → nat_lt a n ≡ b → nat_le n a ≡ not b
      turned a n true is = grind (arith, nat_tests)
      turned a n false is = grind (arith, nat_tests)

  pub goes_retain : (slot : ℕ) (id : Puid) → is_there s.graph id ≡ true → nat_lt slot (was.root.size / 8) ≡ true → refusal_of s who (asks.Retain (Through t) slot id) ≡ None
  goes_retain slot id here is = rw (it.found, here, there, writes, it.draft_was, index.1, past slot true is) refl

  pub beyond_retain : (slot : ℕ) (id : Puid) → is_there s.graph id ≡ true → nat_lt slot (was.root.size / 8) ≡ false → refusal_of s who (asks.Retain (Through t) slot id) ≡ Some replies.Slot
  beyond_retain slot id here is = rw (it.found, here, there, writes, it.draft_was, index.1, past slot false is) refl

  pub gone_retain : (slot : ℕ) (id : Puid) → is_there s.graph id ≡ false → refusal_of s who (asks.Retain (Through t) slot id) ≡ Some replies.NoObject
  gone_retain slot id gone = rw (it.found, gone) refl

  pub refused_delete : (slot : ℕ) (reply : Reply) → reply ≡ looked i slot → is_id reply ≡ false → refusal_of s who (asks.Delete (Through t) slot) ≡ Some reply
  refused_delete slot reply same no_id = at (nat_le (length i.slots) slot) (slot_of i slot) refl refl
    where
      at : (b : Bool) (o : Option Puid) → nat_le (length i.slots) slot ≡ b → slot_of i slot ≡ o → refusal_of s who (asks.Delete (Through t) slot) ≡ Some reply
      at true o is what = let here : looked i slot ≡ replies.Slot = rw is refl in rw (it.found, there, writes, it.draft_was, index.1, is) (ap (λ r. Some r) (sym (same ∙ here)))
      at false None is what = let here : looked i slot ≡ replies.Empty = rw (is, what) refl in rw (it.found, there, writes, it.draft_was, index.1, is, what) (ap (λ r. Some r) (sym (same ∙ here)))
      at false (Some id) is what = let here : looked i slot ≡ replies.Id id = rw (is, what) refl in let no : true ≡ false = sym (ap is_id (same ∙ here)) ∙ no_id in cc

  -- it isn't refused, and the slot holds something
  pub goes_delete : (slot : ℕ) → is_id (looked i slot) ≡ true → (refusal_of s who (asks.Delete (Through t) slot) ≡ None) × (is_empty_already i slot None ≡ false)
  goes_delete slot same = at (nat_le (length i.slots) slot) (slot_of i slot) refl refl
    where
      at : (b : Bool) (o : Option Puid) → nat_le (length i.slots) slot ≡ b → slot_of i slot ≡ o → (refusal_of s who (asks.Delete (Through t) slot) ≡ None) × (is_none o ≡ false)
      at true o is what = let here : looked i slot ≡ replies.Slot = rw is refl in let no : false ≡ true = sym (ap is_id here) ∙ same in cc
      at false None is what = let here : looked i slot ≡ replies.Empty = rw (is, what) refl in let no : false ≡ true = sym (ap is_id here) ∙ same in cc
      at false (Some x) is what = (rw (it.found, there, writes, it.draft_was, index.1, is, what) refl, refl)

  pub beyond_file : (kind : FileKind) (fill slot : ℕ) → nat_lt slot (was.root.size / 8) ≡ false → refusal_of s who (asks.CreateFile kind fill (Through t) slot) ≡ Some replies.Slot
  beyond_file kind fill slot is = rw (it.found, there, writes, it.draft_was, index.1, past slot false is) refl

  pub goes_file : (kind : FileKind) (fill slot : ℕ) → nat_lt slot (was.root.size / 8) ≡ true → refusal_of s who (asks.CreateFile kind fill (Through t) slot) ≡ None
  goes_file kind fill slot is = rw (it.found, there, writes, it.draft_was, index.1, past slot true is) refl

  pub beyond_index : (slots slot : ℕ) → nat_lt slot (was.root.size / 8) ≡ false → refusal_of s who (asks.CreateIndex slots (Through t) slot) ≡ Some replies.Slot
  beyond_index slots slot is = rw (it.found, there, writes, it.draft_was, index.1, past slot false is) refl

  pub range_index : (slots slot : ℕ) → nat_lt slot (was.root.size / 8) ≡ true → ((slots == 0) || nat_lt most_slots slots) ≡ true → refusal_of s who (asks.CreateIndex slots (Through t) slot) ≡ Some replies.Range
  range_index slots slot is out = rw (it.found, there, writes, it.draft_was, index.1, past slot true is, out) refl

  pub goes_index : (slots slot : ℕ) → nat_lt slot (was.root.size / 8) ≡ true → (slots == 0) ≡ false → nat_lt most_slots slots ≡ false → refusal_of s who (asks.CreateIndex slots (Through t) slot) ≡ None
  goes_index slots slot is some few = rw (it.found, there, writes, it.draft_was, index.1, past slot true is, some, few) refl

-- ---- calls that only read

module _ {D : Type 0} (g : Ghosts D) (left_sized : (d : D) (t : ℕ) (c : Image) → g.left_since d t c → length c ≡ g.blocks d) (sized : (d : D) → IsTrue (g.honest d) → length (g.content d) ≡ g.blocks d)
    (who : ℕ) (t : Tuid) (law : FindsGrant who t) (k : Kernel D) (drafted : IsDrafted k AnIndex who t) where
  pub tries_slots : Tries g k k who (asks.Slots (Through t)) (Ok (replies.Number (drafted.drafting.root.size / 8)))
  tries_slots = tries_so g left_sized sized 0 k k (reads_none g 0 k.disk) refl who (asks.Slots (Through t)) (Ok (replies.Number (drafted.drafting.root.size / 8)))
      (λ s serves none. told g left_sized sized 0 k k (reads_none g 0 k.disk) refl s who serves none (asks.Slots (Through t)) (replies.Number (drafted.drafting.root.size / 8)) refl refl refl refl
      (subst (IsSeen k.words.seed s who (asks.Slots (Through t))) (ap replies.Number (slots_are g who t law k drafted s serves)) (slots_told g who t law k drafted s serves k.words.seed)))
      tt tt

  module _ (d : D) (slot : ℕ) (result : Result Reply Refused) (looks : LooksInDraft g slot drafted.drafting k.disk d result) where
    -- what the slot holds, in a state that the core serves
    pub exact_here : (s : State) (serves : ServesIs g k s) → IfOk result (λ reply. reply ≡ looked (index g who t law k drafted s serves).0 slot)
    exact_here s serves =
        let i = index g who t law k drafted s serves in
        looks.exact (draft_seen g k s serves who t drafted.drafting (held g who t law k drafted s serves)) i.0 i.1 (slots_are g who t law k drafted s serves)

    -- it couldn't be read
    pub tries_unlooked : (request : Request) (e : Refused) → result ≡ Err e → Tries g k (record k { disk = d }) who request (Err e)
    tries_unlooked request e is = tries_unseen g left_sized sized who t law k drafted 2 d looks.reads request e (λ v. rw is at (looks.sound v)) (rw is at looks.cause)

    -- a delete of a slot that the draft hasn't, or that is empty
    pub tries_undeleted : (reply : Reply) → result ≡ Ok reply → is_id reply ≡ false → Tries g k (record k { disk = d }) who (asks.Delete (Through t) slot) (Ok reply)
    tries_undeleted reply is no_id = tries_so g left_sized sized 2 k (record k { disk = d }) looks.reads refl who (asks.Delete (Through t) slot) (Ok reply)
        (λ s serves none. refused g left_sized sized 2 k (record k { disk = d }) looks.reads refl s who serves none (asks.Delete (Through t) slot) reply (refused_delete g who t law k drafted s serves slot reply (rw is at (exact_here s serves)) no_id))
        (rw is at looks.plain) tt

    pub tries_retrieved : Tries g k (record k { disk = d }) who (asks.Retrieve (Through t) slot) result
    tries_retrieved = at result refl
      where
        at : (r : Result Reply Refused) → result ≡ r → Tries g k (record k { disk = d }) who (asks.Retrieve (Through t) slot) result
        at (Ok reply) is = subst (Tries g k (record k { disk = d }) who (asks.Retrieve (Through t) slot)) (sym is) (tries_so g left_sized sized 2 k (record k { disk = d }) looks.reads refl who (asks.Retrieve (Through t) slot) (Ok reply)
            (λ s serves none. told g left_sized sized 2 k (record k { disk = d }) looks.reads refl s who serves none (asks.Retrieve (Through t) slot) reply refl refl refl refl
            (subst (IsSeen k.words.seed s who (asks.Retrieve (Through t) slot)) (sym (rw is at (exact_here s serves))) (retrieve_told g who t law k drafted s serves k.words.seed slot)))
            (rw is at looks.plain) tt)
        at (Err e) is = subst (Tries g k (record k { disk = d }) who (asks.Retrieve (Through t) slot)) (sym is) (tries_unlooked (asks.Retrieve (Through t) slot) e is)
