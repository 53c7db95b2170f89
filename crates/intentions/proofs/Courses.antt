-- Runs that keep to a course: one lemma for each sort of call.
use Rattle.std.proofs.Common.{◌≡◌, ⊎_elim, ℕ, ◌<◌, IsTrue, List, length, set, Bool, true, false, cond, Some, refl, sym, ◌∙◌, ap, subst}
use Rattle.intentions.proofs.Words.{Carries, Course, Frame, Ghosts, Graph, Holds, Image, IsCourse, IsOn, IsSameDisk, IsSettled, Keeps, Leaves, MapEntry, MayPut, Nothing, Object, OnlyReads, Puid, Settling, Written, carries_settled, entry_in, frames_back, frames_begin, frames_entry, frames_hold, frames_then, frames_write, graph_of, hold_fewer, left_now, map_in_image, map_of, map_with, object_at, object_at-with_object, same_puid, same_puid_is, settled_holds, settles_on, settles_write, still_tells, wider, with_entry, with_object}

-- an object that is there, put in again
pub put_again : (g : Graph) (id : Puid) (o : Object) → object_at g id ≡ Some o → (x : Puid) (p : Object) → object_at g x ≡ Some p → object_at (with_object g id o) x ≡ Some p
put_again g id o at x p found = object_at-with_object g id o x ∙ each (same_puid x id) refl
  where
    each : (t : Bool) → same_puid x id ≡ t → cond t (Some o) (object_at g x) ≡ Some p
    each true same = sym at ∙ ap (object_at g) (sym (same_puid_is x id same)) ∙ found
    each false apart = found

-- ---- images

-- one entry more
pub on_entry : (w : Course) (b : Image) (n : ℕ) (old e : MapEntry) → IsCourse w → IsOn w b → entry_in b n ≡ Some old → MayPut w n old e → IsOn w (with_entry b n e)
on_entry (Frame a graph) b n old e is on was may = frames_entry a graph b n e old is on may.2.apart may.2.keeps was may.0 may.1 may.2.standing
on_entry (Settling c graph id o s) b n old e is on was may = settles_on c graph id o s b n old e is.holds is.at is.copied is.apart on was may

-- a write into any image, of a block with which the content is on the course
pub on_write : (w : Course) (b content : Image) (n : ℕ) (block : List ℕ) → n < length content → IsOn w b → IsOn w (set content n block) → IsOn w (set b n block)
on_write (Frame a graph) b content n block below one two = frames_write a graph b content n block below one two
on_write (Settling c graph id o s) b content n block below one two = settles_write c graph id s b content n block below one two

pub on_holds : (w : Course) (b : Image) → IsCourse w → IsOn w b → Holds b (graph_of w)
on_holds (Frame a graph) b is on = frames_hold a b graph is on
on_holds (Settling c graph id o s) b is on = hold_fewer b (with_object graph id o) graph (settled_holds c graph id o s b is.holds is.at is.copied on) refl (put_again graph id o is.at)

-- ---- disks

-- what a disk carries it keeps to the frame of, and the other way round
pub keeps_frame : {D : Type 0} (g : Ghosts D) (graph : Graph) (d : D) → Carries g graph d → Keeps g (Frame (g.content d) graph) d
keeps_frame g graph d run = record { tells = run.tells; content = frames_begin (g.content d) graph run.holds; here = run.here }

pub carries_framed : {D : Type 0} (g : Ghosts D) (a : Image) (graph : Graph) (d : D) → Holds a graph → Keeps g (Frame a graph) d → Carries g graph d
carries_framed g a graph d holds run = record {
  tells = run.tells;
  holds = frames_hold a (g.content d) graph holds run.content;
  here = λ c h. frames_then (g.content d) a c graph (frames_back a (g.content d) graph holds run.content) (run.here c h);
}

-- where nothing waits it keeps to each course that its content is on
pub keeps_settled : {D : Type 0} (g : Ghosts D) (w : Course) (d : D) → IsSettled g d → IsOn w (g.content d) → Keeps g w d
keeps_settled g w d s on = record { tells = s.tells; content = on; here = λ c h. subst (IsOn w) (sym (s.only c h)) on }

-- and carries the objects of each that it has kept to
pub carries_ended : {D : Type 0} (g : Ghosts D) (w : Course) (d : D) → IsCourse w → Keeps g w d → IsSettled g d → Carries g (graph_of w) d
carries_ended g w d is run s = carries_settled g (graph_of w) d s (on_holds w (g.content d) is run.content)

module _ {D : Type 0} (g : Ghosts D) (w : Course) where
  -- a read or a barrier, done or failed
  pub stays : (old new : D) → Keeps g w old → g.content new ≡ g.content old → ((n : ℕ) → IsTrue (g.told old n) → IsTrue (g.told new n)) → Leaves g old new Nothing → IsSameDisk g.blocks g.honest g.tells_images old new → Keeps g w new
  stays old new run same told images disk = record {
    tells = still_tells g run.tells told disk;
    content = subst (IsOn w) (sym same) run.content;
    here = λ c h. ⊎_elim (λ was. run.here c was) (λ none. absurd none) (images.now c h);
  }

  pub reads : (old new : D) (n : ℕ) → Keeps g w old → OnlyReads g n old new → Keeps g w new
  reads old new n run only = stays old new run only.content only.told only.images only.same

  -- one write
  module _ (old new : D) (n : ℕ) (block : List ℕ) (run : Keeps g w old) (below : n < length (g.content old)) (on : IsOn w (set (g.content old) n block)) (images : Leaves g old new (Written (left_now g old) n block)) where
    after : (c : Image) → Written (left_now g old) n block c → IsOn w c
    after c written = subst (IsOn w) (sym written.2) (on_write w written.0 (g.content old) n block below (run.here written.0 written.1) on)

    -- done or failed
    pub tried : Leaves g old new (IsOn w)
    tried = wider g old new (Written (left_now g old) n block) (IsOn w) images after

    -- done
    pub wrote : IsSameDisk g.blocks g.honest g.tells_images old new → g.content new ≡ set (g.content old) n block → ((m : ℕ) → IsTrue (g.told old m) → IsTrue (g.told new m)) → Keeps g w new
    wrote disk content told = record {
      tells = still_tells g run.tells told disk;
      content = subst (IsOn w) (sym content) on;
      here = λ c h. ⊎_elim (λ was. run.here c was) (after c) (images.now c h);
    }

-- one entry
module _ {D : Type 0} (g : Ghosts D) (w : Course) (is : IsCourse w) (old new : D) (n : ℕ) (was e : MapEntry) (run : Keeps g w old) (here : entry_in (g.content old) n ≡ Some was) (may : MayPut w n was e)
    (images : Leaves g old new (Written (left_now g old) (map_of n) (map_with (g.content old) n e))) where
  pub entry_tried : Leaves g old new (IsOn w)
  unfolding with_entry
  entry_tried = tried g w old new (map_of n) (map_with (g.content old) n e) run (map_in_image (g.content old) n was here) (on_entry w (g.content old) n was e is run.content here may) images

  pub entry_wrote : IsSameDisk g.blocks g.honest g.tells_images old new → g.content new ≡ with_entry (g.content old) n e → ((m : ℕ) → IsTrue (g.told old m) → IsTrue (g.told new m)) → Keeps g w new
  unfolding with_entry
  entry_wrote disk content told = wrote g w old new (map_of n) (map_with (g.content old) n e) run (map_in_image (g.content old) n was here) (on_entry w (g.content old) n was e is run.content here may) images disk content told
