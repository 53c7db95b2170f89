-- Runs on a disk that carries a graph.
use Rattle.std.proofs.Common.{◌≡◌, inl, ℕ, ◌<◌, IsTrue, List, length, set, Some, sym, subst, arith}
use Rattle.vol_image.proofs.Words.{Carries, Frames, Ghosts, Graph, Holds, Image, IsSameDisk, IsSettled, Leaves, Nothing, Object, Puid, Within, Written, left_now, object_at, wider}
use Rattle.vol_image.proofs.Changes.{hold_fewer}
use Rattle.vol_image.proofs.Law.{frames_hold}
use Rattle.vol_image.proofs.Runs.{stays, tried, wrote}
use Rattle.vol_image.proofs.Steps.{frames_back, frames_begin, frames_fewer, frames_then}

module _ {D : Type 0} (g : Ghosts D) (graph : Graph) where
  -- it is a run within the frame of its own content
  pub within_content : (d : D) → Carries g graph d → Within g (g.content d) graph d d
  within_content d run = record {
    tells = run.tells;
    content = frames_begin (g.content d) graph run.holds;
    here = run.here;
    leaves = record { later = omega arith; since = λ t c le h. inl h; now = λ c h. inl h };
  }

  -- and each run within the frame of an image that holds the graph carries it
  pub carried : (a : Image) (start d : D) → Holds a graph → Within g a graph start d → Carries g graph d
  carried a start d holds run = record {
    tells = run.tells;
    holds = frames_hold a (g.content d) graph holds run.content;
    here = λ c h. frames_then (g.content d) a c graph (frames_back a (g.content d) graph holds run.content) (run.here c h);
  }

  -- nothing waits
  pub carries_settled : (d : D) → IsSettled g d → Holds (g.content d) graph → Carries g graph d
  carries_settled d s holds = record { tells = s.tells; holds = holds; here = λ c h. subst (Frames (g.content d) graph) (sym (s.only c h)) (frames_begin (g.content d) graph holds) }

  -- any of the objects alone
  pub carries_fewer : (h : Graph) (d : D) → Carries g graph d → h.root ≡ graph.root → ((x : Puid) (o : Object) → object_at h x ≡ Some o → object_at graph x ≡ Some o) → Carries g h d
  carries_fewer h d run root was = record {
    tells = run.tells;
    holds = hold_fewer (g.content d) graph h run.holds root was;
    here = λ c left. frames_fewer (g.content d) c graph h (run.here c left) was;
  }

  -- a read or a barrier, done or failed
  pub carries_on : (old new : D) → Carries g graph old → g.content new ≡ g.content old → ((n : ℕ) → IsTrue (g.told old n) → IsTrue (g.told new n)) → Leaves g old new Nothing → IsSameDisk g.blocks g.honest g.tells_images old new → Carries g graph new
  carries_on old new run same told images disk =
      carried (g.content old) old new run.holds (stays g (g.content old) graph old old new (within_content old run) same told images disk)

  -- whatever stays within the frame of the content holds the graph
  pub leaves_held : (old new : D) → Carries g graph old → Leaves g old new (Frames (g.content old) graph) → Leaves g old new (λ c. Holds c graph)
  leaves_held old new run images = wider g old new (Frames (g.content old) graph) (λ c. Holds c graph) images (λ c is. frames_hold (g.content old) c graph run.holds is)

  -- One write, of a block with which the content stays within the frame: done or failed, and done
  module _ (old new : D) (n : ℕ) (block : List ℕ) (run : Carries g graph old) (below : n < length (g.content old)) (within : Frames (g.content old) graph (set (g.content old) n block)) (images : Leaves g old new (Written (left_now g old) n block)) where
    pub write_leaves : Leaves g old new (λ c. Holds c graph)
    write_leaves = leaves_held old new run (tried g (g.content old) graph old old new n block (within_content old run) below within images)

    pub carries_write : IsSameDisk g.blocks g.honest g.tells_images old new → g.content new ≡ set (g.content old) n block → ((m : ℕ) → IsTrue (g.told old m) → IsTrue (g.told new m)) → Carries g graph new
    carries_write same content told = carried (g.content old) old new run.holds (wrote g (g.content old) graph old old new n block (within_content old run) below within images same content told)
