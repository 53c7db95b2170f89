-- Calls that carry on a commit: one after another, noted, after reads, and on any disk.
use Rattle.std.proofs.Common.{◌≡◌, inl, ℕ, ◌+◌, ◌≤◌, Bool, true, false, length, List, Ok, Err, Option, Some, None, refl, sym, ◌∙◌, ap, subst, cond, arith}
use Rattle.std.specs.Prelude.{IfErr, Result, is_some, ◌<◌, ◌≤◌}
use Rattle.intentions.proofs.Reading.{going_reads, store_reads}
use Rattle.finisher.specs.Going.{Ends, Goes, GoesFrom, IsLeftTrouble, PartEnds}
use Rattle.cfs_base.proofs.Calls.{makes_then, reads_make, stopped_after_reads, stopped_after_try, tells_on, then_tried}
use Rattle.cfs_base.proofs.Went.{went_as, went_then}
use Rattle.cfs_base.specs.Went.{KnowsTries, Went}
use Rattle.cfs_base.specs.Calls.{MakesAtMost, OnlyReads}
use Rattle.cfs_base.specs.Disk.{Nothing, Image}
use Rattle.cfs_base.specs.Refusals.{trouble_after_try, trouble_had_tried}
use Rattle.cyl_alloc.specs.Left.{after_next, after_part, LeftCommit}
use Rattle.cfs_base.specs.Run.{Tells}
use Rattle.cfs_base.specs.declared.disk.Disk.{Ghosts}
use Rattle.cfs_base.specs.declared.identifier.Puid.{Puid}
use Rattle.cfs_base.specs.declared.refusal.Trouble.{Trouble}
use Rattle.cfs_base.specs.declared.refusal.Trouble.TheVariants as trouble
use Rattle.cfs_base.proofs.Runs.{still_tells, then, wider}
use Rattle.cyl_alloc.specs.Space.{AreCounts, Kept}
use Rattle.cyl_map.specs.declared.entry.MapEntry.{MapEntry}
use Rattle.intentions.specs.Calls.{ChangesEntry}
use Rattle.block_tree.specs.Reads.{is_damage}
use Rattle.ufs_model.specs.declared.object.Object.{Object}
use Rattle.ufs_model.specs.Graph.{Graph}
use Rattle.vol_image.specs.Sound.{Holds}
use Rattle.vol_owners.specs.Account.{Drafts}
use Rattle.intentions.specs.Left.{GoesOn, GoesWith, StoreWith, coming}

-- ---- counts of an image are those of its Free blocks alone, whatever is left

pub counts_alike : (image : Image) (k j : Kept) → j.free ≡ k.free → AreCounts image k → AreCounts image j
counts_alike image k j same counts = subst (λ (free : List ℕ). AreCounts image (record { free = free; left = j.left })) (sym same) (record { size = counts.size; each = counts.each })

pub goes_alike : {D : Type 0} (g : Ghosts D) (graph : Graph) (d : D) (k j : Kept) (w : Option LeftCommit) → j.free ≡ k.free → GoesWith g graph d k w → GoesWith g graph d j w
goes_alike g graph d k j None same has = (has.0, counts_alike (g.content d) k j same has.1)
goes_alike g graph d k j (Some l) same has = record { id = has.id; object = has.object; root_is = has.root_is; goes = has.goes; counts = counts_alike (g.content d) k j same has.counts }

pub store_alike : {D : Type 0} (g : Ghosts D) (graph : Graph) (ds : Drafts) (d : D) (k j : Kept) (w : Option LeftCommit) → j.free ≡ k.free → StoreWith g graph ds d k w → StoreWith g graph ds d j w
store_alike g graph ds d k j None same has = record { carries = has.carries; account = has.account; counts = counts_alike (g.content d) k j same has.counts; ordered = has.ordered }
store_alike g graph ds d k j (Some l) same has = record {
  going = record { id = has.going.id; object = has.going.object; root_is = has.going.root_is; goes = has.going.goes; counts = counts_alike (g.content d) k j same has.going.counts };
  owners = has.owners;
  own = has.own;
  opens = has.opens;
  shut = has.shut;
  account = has.account;
  ordered = has.ordered;
}

-- a part that was made is kept so
pub goes_kept : {D : Type 0} (g : Ghosts D) (d0 d1 : D) (k0 mid new : Kept) (l : LeftCommit) (w : Option LeftCommit) → k0.left ≡ Some l → new.free ≡ mid.free → new.left ≡ w → GoesFrom g d0 d1 k0 mid (Some l) w (Ok tt) → Goes g d0 d1 k0 new (Ok tt)
goes_kept g d0 d1 k0 mid new l w was free now goes =
    subst (λ (x : Option LeftCommit). GoesFrom g d0 d1 k0 new x new.left (Ok tt)) (sym was) (subst (λ (x : Option LeftCommit). GoesFrom g d0 d1 k0 new (Some l) x (Ok tt)) (sym now) (record {
      goes = λ graph has. goes_alike g graph d1 mid new w free (goes.goes graph has);
      store = λ graph ds has. store_alike g graph ds d1 mid new w free (goes.store graph ds has);
      comes = goes.comes;
      leaves = goes.leaves;
      sound = goes.sound;
    }))

pub goes_noted : {D : Type 0} (g : Ghosts D) (d0 d1 : D) (k0 mid new : Kept) (l : LeftCommit) → k0.left ≡ Some l → mid.left ≡ k0.left → new ≡ record mid { left = after_next mid.left } → GoesFrom g d0 d1 k0 mid (Some l) (after_part l) (Ok tt) → Goes g d0 d1 k0 new (Ok tt)
goes_noted g d0 d1 k0 mid new l was same noted goes =
    goes_kept g d0 d1 k0 mid new l (after_part l) was (ap (λ (k : Kept). k.free) noted) (ap (λ (k : Kept). k.left) noted ∙ ap after_next (same ∙ was)) goes

-- where nothing is left nothing is done
pub nothing_left : {D : Type 0} (g : Ghosts D) (d : D) (k : Kept) → GoesFrom g d d k k None None (Ok tt)
nothing_left g d k = record {
  goes = λ graph has. has;
  store = λ graph ds has. has;
  comes = λ graph has. refl;
  leaves = λ graph has. record { later = omega arith; since = λ n c le h. inl h; now = λ c h. inl h };
  sound = λ graph has. tt;
}

-- one call after another
pub goes_then : {D : Type 0} (g : Ghosts D) (d0 d1 d2 : D) (k0 k1 k2 : Kept) (w0 w1 w2 : Option LeftCommit) (r : Result (Unit {0}) Trouble) → GoesFrom g d0 d1 k0 k1 w0 w1 (Ok tt) → GoesFrom g d1 d2 k1 k2 w1 w2 r → GoesFrom g d0 d2 k0 k2 w0 w2 r
goes_then g d0 d1 d2 k0 k1 k2 w0 w1 w2 (Ok u) first second = record {
  goes = λ graph has. second.goes graph (first.goes graph has);
  store = λ graph ds has. second.store graph ds (first.store graph ds has);
  comes = λ graph has. second.comes graph (first.goes graph has) ∙ first.comes graph has;
  leaves = λ graph has. then g d0 d1 d2 (λ c. Holds c graph) (λ c. Holds c graph) (first.leaves graph has) (second.leaves graph (first.goes graph has)) (λ c h. h);
  sound = λ graph has. tt;
}
goes_then g d0 d1 d2 k0 k1 k2 w0 w1 w2 (Err t) first second = record {
  goes = λ graph has. tt;
  store = λ graph ds has. tt;
  comes = λ graph has. tt;
  leaves = λ graph has. then g d0 d1 d2 (λ c. Holds c graph) (λ c. Holds c graph) (first.leaves graph has) (second.leaves graph (first.goes graph has)) (λ c h. h);
  sound = λ graph has. second.sound graph (first.goes graph has);
}

-- ---- on any disk

-- a part that changes one entry is made
pub entry_ends : {D A : Type 0} (g : Ghosts D) (d0 d1 : D) (k0 k1 : Kept) (n : ℕ) {f : MapEntry → MapEntry} (x : A) → length k1.free ≡ length k0.free → ChangesEntry g n f d0 d1 (Ok x) → PartEnds g 2 1 d0 d1 k0 k1 (Ok tt)
entry_ends g d0 d1 k0 k1 n x cylinders change = record { told = change.told; knows = change.tried; refused = tt; untried = tt; moves = cylinders; calls = change.calls }

-- a part that begins with a read
module _ {D : Type 0} (g : Ghosts D) (d0 d1 d2 : D) (n : ℕ) (only : OnlyReads g n d0 d1) where
  pub goes_reads : (k : Kept) (w : Option LeftCommit) → GoesFrom g d0 d1 k k w w (Ok tt)
  goes_reads k w = record {
    goes = λ graph has. going_reads g graph d0 d1 k n only w has;
    store = λ graph ds has. store_reads g graph d0 d1 k n only ds w has;
    comes = λ graph has. ap (λ (i : Image). coming i w) only.content;
    leaves = λ graph has. wider g d0 d1 Nothing (λ c. Holds c graph) only.images (λ c none. absurd none);
    sound = λ graph has. tt;
  }

  pub reads_left : (t : Trouble) → IsLeftTrouble g d1 d2 t → IsLeftTrouble g d0 d2 t
  reads_left (trouble.Disk tried) is = stopped_after_reads g d0 d1 d2 n tried only is
  reads_left (trouble.Damaged damage) is = (is.0, is.1, is.2, λ tells. is.3 (tells_on g d0 d1 d2 n only tells))

  pub reads_end : (m t most : ℕ) (k : Kept) (result : Result (Unit {0}) Trouble) → PartEnds g m t d1 d2 k k result → IfErr result (λ e. e ≡ trouble.Disk true) → n + m ≤ most → PartEnds g most t d0 d2 k k result
  reads_end m t most k (Ok u) ends told few = record {
    told = λ b was. ends.told b (only.told b was);
    knows = then_tried g d0 d1 d2 n 0 (reads_make g d0 d1 n only) ends.knows;
    refused = tt;
    untried = tt;
    moves = refl;
    calls = makes_then g d0 d1 d2 n m most 0 t t (reads_make g d0 d1 n only) ends.calls few (omega arith);
  }
  reads_end m t most k (Err e) ends told few = record {
    told = tt;
    knows = tt;
    refused = reads_left e ends.refused;
    untried = λ un. (let no : true ≡ false = sym (ap trouble_had_tried told) ∙ un in cc);
    moves = refl;
    calls = makes_then g d0 d1 d2 n m most 0 t t (reads_make g d0 d1 n only) ends.calls few (omega arith);
  }

-- ---- parts, one after another

-- So many parts were made, or none, and none was refused.
pub record HasMade {D : Type 0} (g : Ghosts D) (tried : Bool) (old new : D) (before after : Kept) : Type 0 where
  pub n : ℕ
  pub t : ℕ
  pub went : Went {A = Unit {0}} g n t 0 old new before after (length after.free ≡ length before.free) (IsLeftTrouble g old new) (λ e. e ≡ trouble.Disk false) (λ u. Some tried) (Ok tt)

-- the same with other bounds
pub counted : {D : Type 0} {g : Ghosts D} {n t m s r : ℕ} {old new : D} {before after : Kept} {Moves : Type 0} {Refuses Untried : Trouble → Type 0} {known : Unit {0} → Option Bool} {result : Result (Unit {0}) Trouble}
    → MakesAtMost g m s old new → Went g n t r old new before after Moves Refuses Untried known result → Went g m s r old new before after Moves Refuses Untried known result
counted calls went = record { told = went.told; knows = went.knows; refused = went.refused; untried = went.untried; moves = went.moves; calls = calls }

-- the trouble of a part after others
abbrev pub since_parts : Bool → Trouble → Trouble
since_parts tried t = cond tried (trouble_after_try t) t

module _ {D : Type 0} (g : Ghosts D) (d0 d1 d2 : D) (k0 k1 k2 : Kept) where
  pub made_then : (tried : Bool) → HasMade g tried d0 d1 k0 k1 → PartEnds g 4 3 d1 d2 k1 k2 (Ok tt) → HasMade g true d0 d2 k0 k2
  made_then tried was ends = record {
    n = was.n + 4;
    t = was.t + 3;
    went = record {
      told = λ b has. ends.told b (was.went.told b has);
      knows = then_tried g d0 d1 d2 was.n was.t was.went.calls ends.knows;
      refused = tt;
      untried = tt;
      moves = ends.moves ∙ was.went.moves;
      calls = makes_then g d0 d1 d2 was.n 4 (was.n + 4) was.t 3 (was.t + 3) was.went.calls ends.calls (omega arith) (omega arith);
    };
  }

  pub made_err : (n t : ℕ) (tried : Bool) (e : Trouble) → HasMade g tried d0 d1 k0 k1 → PartEnds g 4 3 d1 d2 k1 k2 (Err e) → MakesAtMost g n t d0 d2 → Ends g n t d0 d2 k0 k2 (Err (since_parts tried e))
  made_err n t tried e was ends calls = counted calls (went_then (since_parts tried) (λ first then. then ∙ first) (refused tried was e) (untried tried e) tt was.went ends)
    where
      refused : (b : Bool) → HasMade g b d0 d1 k0 k1 → (x : Trouble) → IsLeftTrouble g d1 d2 x → IsLeftTrouble g d0 d2 (since_parts b x)
      refused true made (trouble.Disk did) is = stopped_after_try g d0 d1 d2 made.n made.t did made.went.calls made.went.knows is
      refused false made (trouble.Disk did) is = stopped_after_reads g d0 d1 d2 0 did made.went.knows.1 is
      refused true made (trouble.Damaged damage) is = (is.0, is.1, is.2, λ tells. is.3 (still_tells g tells made.went.told made.went.calls.same))
      refused false made (trouble.Damaged damage) is = (is.0, is.1, is.2, λ tells. is.3 (still_tells g tells made.went.told made.went.calls.same))

      untried : (b : Bool) (x : Trouble) → since_parts b x ≡ trouble.Disk false → (Some b ≡ Some false) × (trouble_had_tried x ≡ false)
      untried true (trouble.Disk did) is = cc
      untried true (trouble.Damaged damage) is = cc
      untried false x is = (refl, ap trouble_had_tried is)

-- nothing is left then
pub made_all : {D : Type 0} (g : Ghosts D) (d0 d1 : D) (k0 k1 : Kept) (n t : ℕ) (tried : Bool) → HasMade g tried d0 d1 k0 k1 → tried ≡ is_some k0.left → MakesAtMost g n t d0 d1 → Ends g n t d0 d1 k0 k1 (Ok tt)
made_all g d0 d1 k0 k1 n t tried was is calls = counted calls (went_as was.n was.t 1 (λ m. m) (λ e r. r) (λ e u. u) (λ u knows. subst (λ (b : Bool). KnowsTries g 0 d0 d1 k0 k1 (Some b)) is knows) was.went (omega arith) (omega arith) (omega arith))

-- what holds where the disk tells its content holds wherever the store has its objects
pub goes_told : {D : Type 0} (g : Ghosts D) (d0 d1 : D) (k0 k1 : Kept) (w0 w1 : Option LeftCommit) (r : Result (Unit {0}) Trouble) → (Tells g d0 → GoesFrom g d0 d1 k0 k1 w0 w1 r) → GoesFrom g d0 d1 k0 k1 w0 w1 r
goes_told g d0 d1 k0 k1 w0 w1 r goes = record {
  goes = λ graph has. (goes (tells w0 graph has)).goes graph has;
  comes = λ graph has. (goes (tells w0 graph has)).comes graph has;
  leaves = λ graph has. (goes (tells w0 graph has)).leaves graph has;
  sound = λ graph has. (goes (tells w0 graph has)).sound graph has;
  store = λ graph ds has. (goes (tells w0 graph (bare w0 graph ds has))).store graph ds has;
}
  where
    at : (b : Bool) (graph : Graph) (id : Puid) (o : Object) (l : LeftCommit) → GoesOn g b graph id o l d0 → Tells g d0
    at false graph id o l goes = goes.0.tells
    at true graph id o l goes = goes.2.tells

    tells : (w : Option LeftCommit) (graph : Graph) → GoesWith g graph d0 k0 w → Tells g d0
    tells None graph has = has.0.tells
    tells (Some l) graph has = at l.copied graph has.id has.object l has.goes

    bare : (w : Option LeftCommit) (graph : Graph) (ds : Drafts) → StoreWith g graph ds d0 k0 w → GoesWith g graph d0 k0 w
    bare None graph ds has = (has.carries, has.counts)
    bare (Some l) graph ds has = has.going

-- a trouble told as of a call that had tried something before
pub goes_since : {D : Type 0} (g : Ghosts D) (d0 d1 : D) (k0 k1 : Kept) (w0 w1 w2 : Option LeftCommit) (t e : Trouble) → is_damage e ≡ is_damage t → GoesFrom g d0 d1 k0 k1 w0 w1 (Err t) → GoesFrom g d0 d1 k0 k1 w0 w2 (Err e)
goes_since g d0 d1 k0 k1 w0 w1 w2 t e same goes = record { goes = λ graph has. tt; store = λ graph ds has. tt; comes = λ graph has. tt; leaves = goes.leaves; sound = λ graph has. same ∙ goes.sound graph has }

pub since_damage : (tried : Bool) (t : Trouble) → is_damage (since_parts tried t) ≡ is_damage t
since_damage false t = refl
since_damage true (trouble.Disk tried) = refl
since_damage true (trouble.Damaged damage) = refl

pub some_left : (w : Option LeftCommit) (n : ℕ) → n ≡ cond (is_some w) 1 0 → 0 < n → (l : LeftCommit) × (w ≡ Some l)
some_left None n is more = absurd (omega (arith, is, more))
some_left (Some l) n is more = (l, refl)

pub none_left : (w : Option LeftCommit) (n : ℕ) → n ≡ cond (is_some w) 1 0 → n ≤ 0 → w ≡ None
none_left None n is least = refl
none_left (Some l) n is least = absurd (omega (arith, is, least))
