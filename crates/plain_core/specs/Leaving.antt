-- What a call of a core that is one item leaves of all open sockets (own choice).
use Rattle.std.specs.Prelude.{◌≡◌, ◌≢◌, ◌<◌, ℕ, true, List}
use Rattle.zq_base.specs.declared.ids.EndId.{EndId}
use Rattle.spec_control.specs.Control.{begun, next_object, next_pair, place_of}
use Rattle.spec_control.specs.ControlRun.{after_all}
use Rattle.spec_control.specs.Names.{name_of}
use Rattle.spec_control.specs.Moments.{Moment, items_in, left_after, moments_by, moments_from}
use Rattle.spec_control.specs.OwnAsks.{known_after}
use Rattle.ctl_plane.specs.Past.{control_of}
use Rattle.desk.specs.Holding.{Holding}
use Rattle.desk.specs.Desk.{HasWhatTheySay}
use Rattle.plain_desk.specs.Lent.{Lent, coming_to}

module _ {G N S : Type 0} where
  -- what a caller did and saw, in a context with one I/O worker
  abbrev pub moments_at : ℕ → Lent G N S → List (Moment N S)
  moments_at k d = moments_by k (moments_from (begun 1) d.items)

  -- the caller has this socket open
  abbrev pub HasOpenAt : ℕ → Lent G N S → ℕ → Type 0
  HasOpenAt k d o = (known_after o (items_in (moments_at k d))).open_socket ≡ true

  -- There is one I/O worker. The other callers' moments are as they were, and what the caller's own say of its open sockets and of their ends, so who has an open socket has it still; pipes have their names, there are no more pairs, each end is where it was, and the same ends are on their way; what was made was made.
  pub record LeavesSockets (k : ℕ) (old new : Lent G N S) : Type 0 where
    pub was_one : old.past.workers ≡ 1
    pub one : new.past.workers ≡ 1
    pub others : (j : ℕ) → k ≢ j → moments_at j new ≡ moments_at j old
    pub knows : (o : ℕ) → HasOpenAt k old o → known_after o (items_in (moments_at k new)) ≡ known_after o (items_in (moments_at k old))
    pub left : (o : ℕ) → HasOpenAt k old o → left_after o (moments_at k new) ≡ left_after o (moments_at k old)
    pub has : (h : Holding N) → HasWhatTheySay k (moments_at k old) h → HasWhatTheySay k (moments_at k new) h
    pub names : name_of new.items ≡ name_of old.items
    pub given : new.past.given ≡ old.past.given
    pub pairs : next_pair (control_of new.past) ≡ next_pair (control_of old.past)
    pub places : (e : EndId) → place_of (control_of new.past) e ≡ place_of (control_of old.past) e
    pub coming : (slot : ℕ) (e : EndId) → coming_to new slot e ≡ coming_to old slot e
    pub numbers : (o : ℕ) → o < next_object (after_all old.items (begun 1)) → o < next_object (after_all new.items (begun 1))
