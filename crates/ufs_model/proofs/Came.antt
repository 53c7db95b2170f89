-- Each answer that may come is an outcome, a refusal, a want of blocks, or trouble.
use Rattle.std.proofs.Common.{◌≡◌, ℕ, ◌+◌, Bool, true, false, Option, Some, None, List, [], ◌∷◌, refl, sym, ◌∙◌, ap, ◌&&◌, ◌||◌, not, ◌==◌, if◌then◌else◌}
use Rattle.std.proofs.lemmas.Slice.Eq.{bytes_eq-Decides}
use Rattle.ufs_model.proofs.Words.{Reply, Request, State, allowed_if, and_parts, block_named, by_outcome, bytes_eq, creates, eqb-true, goes_through, is_direct_delete, is_free_root, is_full, is_none, is_outcome, is_refusal, is_running, ltb-true, nat_lt, need_of, next, not-true, option_map_or, outcome_of, parts_of, refusal_of, reserve, same_Some, same_reply}
use Rattle.cfs_base.specs.declared.refusal.Need.{Need}
use Rattle.ufs_model.specs.Came.{ByOutcome, ByRefusal, ByTrouble, ByWant, Came, IsTroubleIn, after_trouble}
use Rattle.ufs_model.specs.Next.{is_stopped_at}
use Rattle.ufs_model.specs.declared.asked.Event.TheVariants as events
use Rattle.ufs_model.specs.declared.asked.Reply.TheVariants as replies

-- ---- a reply from its parts

abbrev number : List ℕ → ℕ
number [] = 0
number (n ∷ ns) = n

abbrev later : List ℕ → List ℕ
later [] = []
later (n ∷ ns) = ns

abbrev perhaps : List ℕ → Option ℕ
perhaps [] = None
perhaps (n ∷ ns) = Some n

abbrev from_parts : ℕ → List ℕ → Reply
from_parts n ns =
    if n == 0 then replies.Done
    else if n == 1 then replies.Id (record { block = number ns; word = number (later ns) })
    else if n == 2 then replies.Grant (record { draw = number ns; word = number (later ns) })
    else if n == 3 then replies.Number (number ns)
    else if n == 4 then replies.Content ns
    else if n == 5 then replies.Memory
    else if n == 6 then replies.Stopped (number ns)
    else if n == 7 then replies.NoGrant
    else if n == 8 then replies.NoObject
    else if n == 9 then replies.NotIndex
    else if n == 10 then replies.NotFile
    else if n == 11 then replies.ReadOnly
    else if n == 12 then replies.Locked
    else if n == 13 then replies.Slot
    else if n == 14 then replies.Empty
    else if n == 15 then replies.Range
    else if n == 16 then replies.Grants
    else if n == 17 then replies.Full (record { free = number ns; need = number (later ns) })
    else if n == 18 then replies.Disk (perhaps ns)
    else replies.Damaged (record { block = number ns; code = number (later ns) }) (number (later (later ns)))

told_apart : (r : Reply) → from_parts (parts_of r).0 (parts_of r).1 ≡ r
told_apart replies.Done = refl
told_apart (replies.Id id) = refl
told_apart (replies.Grant t) = refl
told_apart (replies.Number n) = refl
told_apart (replies.Content bytes) = refl
told_apart replies.Memory = refl
told_apart (replies.Stopped moment) = refl
told_apart replies.NoGrant = refl
told_apart replies.NoObject = refl
told_apart replies.NotIndex = refl
told_apart replies.NotFile = refl
told_apart replies.ReadOnly = refl
told_apart replies.Locked = refl
told_apart replies.Slot = refl
told_apart replies.Empty = refl
told_apart replies.Range = refl
told_apart replies.Grants = refl
told_apart (replies.Full n) = refl
told_apart (replies.Disk None) = refl
told_apart (replies.Disk (Some m)) = refl
told_apart (replies.Damaged d moment) = refl

pub same_is : (a b : Reply) → same_reply a b ≡ true → a ≡ b
same_is a b is =
    let two = and_parts ((parts_of a).0 == (parts_of b).0) (bytes_eq (parts_of a).1 (parts_of b).1) is in
    sym (told_apart a) ∙ ap (λ (n : ℕ). from_parts n (parts_of a).1) (eqb-true (parts_of a).0 (parts_of b).0 two.0)
    ∙ ap (from_parts (parts_of b).0) ((bytes_eq-Decides (parts_of a).1 (parts_of b).1).0 two.1) ∙ told_apart b

-- ---- what may come

pub allowed : (b : Bool) (s t : State) → allowed_if b s ≡ Some t → (b ≡ true) × (s ≡ t)
allowed true s t h = (refl, same_Some s t h)
allowed false s t h = cc

none_of : {A : Type 0} (o : Option A) → is_none o ≡ true → o ≡ None
none_of None is = refl
none_of (Some x) is = cc

free_where : (a b : Bool) → (not a || b) ≡ true → a ≡ true → b ≡ true
free_where true b h is = h
free_where false b h is = cc

reply_of : (r : Reply) (o : Option Reply) → option_map_or (same_reply r) o false ≡ true → o ≡ Some r
reply_of r None is = cc
reply_of r (Some q) is = ap Some (sym (same_is r q is))

moment_of : (m : ℕ) (o : Option ℕ) → option_map_or (λ n. n == m) o false ≡ true → o ≡ Some m
moment_of m None is = cc
moment_of m (Some n) is = ap Some (eqb-true n m is)

module _ (seed : ℕ) (s t : State) (who : ℕ) (request : Request) where
  -- it runs, and the request is not refused
  goes : goes_through s who request ≡ true → (is_running s ≡ true) × (refusal_of s who request ≡ None)
  goes h = let two = and_parts (is_running s) (is_none (refusal_of s who request)) h in (two.0, none_of _ two.1)

  refused : (r : Reply) → allowed_if (is_refusal s who request r) s ≡ Some t → Came seed s who request r t
  refused r h =
      let e = allowed (is_refusal s who request r) s t h in
      let two = and_parts (is_running s) (option_map_or (same_reply r) (refusal_of s who request) false) e.0 in
      ByRefusal two.0 (reply_of r (refusal_of s who request) two.1) (sym e.1)

  done : (r : Reply) → by_outcome seed s who request r ≡ Some t → Came seed s who request r t
  done r h =
      let out = outcome_of seed s who request (block_named r) in
      let free = not (creates request) || is_free_root s.graph (block_named r) in
      let e = allowed (is_outcome seed s who request r) out.1 t h in
      let last = and_parts (goes_through s who request && free) (same_reply out.0 r) e.0 in
      let first = and_parts (goes_through s who request) free last.0 in
      let on = goes first.0 in
      ByOutcome (block_named r) on.0 on.1 (free_where (creates request) _ first.1) (sym (same_is out.0 r last.1)) (sym e.1)

  few : (n : Need) → allowed_if (is_full s who request n) s ≡ Some t → Came seed s who request (replies.Full n) t
  few n h =
      let direct = not (is_direct_delete request) in
      let same = n.need == need_of s who request in
      let e = allowed (is_full s who request n) s t h in
      let last = and_parts (goes_through s who request && direct && same) (nat_lt n.free (n.need + reserve)) e.0 in
      let second = and_parts (goes_through s who request && direct) same last.0 in
      let first = and_parts (goes_through s who request) direct second.0 in
      let on = goes first.0 in
      ByWant n on.0 on.1 (not-true (is_direct_delete request) first.1) (eqb-true n.need _ second.1) (ltb-true n.free _ last.1) refl (sym e.1)

  trouble : (r : Reply) (b : Bool) → (b ≡ true → IsTroubleIn s r) → allowed_if b (after_trouble r s) ≡ Some t → Came seed s who request r t
  trouble r b is h = let e = allowed b (after_trouble r s) t h in ByTrouble (is e.0) (sym e.1)

  pub came : (reply : Reply) → next seed s (events.Ask who request reply) ≡ Some t → Came seed s who request reply t
  came replies.Memory h = ByTrouble tt (sym (same_Some s t h))
  came (replies.Stopped moment) h = trouble (replies.Stopped moment) (is_stopped_at s moment) (moment_of moment s.stopped) h
  came (replies.Disk None) h = trouble (replies.Disk None) (is_running s) (λ runs. runs) h
  came (replies.Disk (Some moment)) h = trouble (replies.Disk (Some moment)) (is_running s) (λ runs. runs) h
  came (replies.Damaged damage moment) h = trouble (replies.Damaged damage moment) (is_running s) (λ runs. runs) h
  came (replies.Full n) h = few n h
  came replies.NoGrant h = refused replies.NoGrant h
  came replies.NoObject h = refused replies.NoObject h
  came replies.NotIndex h = refused replies.NotIndex h
  came replies.NotFile h = refused replies.NotFile h
  came replies.ReadOnly h = refused replies.ReadOnly h
  came replies.Locked h = refused replies.Locked h
  came replies.Slot h = refused replies.Slot h
  came replies.Empty h = refused replies.Empty h
  came replies.Range h = refused replies.Range h
  came replies.Grants h = refused replies.Grants h
  came reply h = done reply h
