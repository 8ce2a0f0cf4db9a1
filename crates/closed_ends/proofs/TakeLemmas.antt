-- Closed sockets stay sound once one more came, and a pipe that none of their ends writes.
use Rattle.std.proofs.Common.{ℕ, ◌≡◌, ◌∙◌, ◌||◌, Bool, true, false, List, [], ◌∷◌, ◌++◌, All, map, None, Option, Some, refl, sym, ap, subst, if◌then◌else◌}
use Rattle.std.specs.Prelude.{is_some}
use Rattle.std.specs.List.{list_any}
use Rattle.zq_base.specs.declared.ids.EndId.{EndId}
use Rattle.spec_control.specs.declared.end.EndState.{EndState}
use Rattle.spec_control.specs.Held.{Held}
use Rattle.msg_pipe.specs.Known.{Known, IsElse}
use Rattle.desk.specs.declared.given.Given.{Given}
use Rattle.desk.specs.declared.notice.Notice.{Notice}
use Rattle.desk.specs.declared.halves.Halves.{Halves}
use Rattle.desk.specs.Holding.{IsLast, NoneWrites, has_end, held_given, read_in}
use Rattle.spec_control.specs.Control.{is_end}
use Rattle.msg_pipe.specs.declared.pipes.Front.{Front}
use Rattle.msg_pipe.specs.declared.pipes.Front.TheVariants.{Message, Empty, Delimiter}
use Rattle.end_table.specs.Looking.{met_after}
use Rattle.end_table.proofs.SoundLemmas.{one_some}
use Rattle.closed_ends.specs.Ending.{with_input}
use Rattle.desk.specs.TakingOver.{AreGivenWith, IsGivenWith, AllTwo, ComeApart}
use Rattle.closed_ends.specs.declared.sockets.ClosedSocket.{ClosedSocket}
use Rattle.end_table.specs.declared.table.Place.{Place}
use Rattle.closed_ends.specs.declared.sockets.ClosedSockets.{ClosedSockets}
use Rattle.sock_core.specs.Standing.{standing_joins}
use Rattle.sock_core.specs.declared.joint.JoinNote.{JoinNote}
use Rattle.closed_ends.specs.Has.{all_ends, is_socket, ends_of, is_of, writes_of, has, Heard, heard_in}
use Rattle.closed_ends.specs.Finding.{came_given}
use Rattle.closed_ends.proofs.FormLemmas.{AllAlone, IsSound}
use Rattle.closed_ends.specs.Others.{Leaves}
use Rattle.closed_ends.proofs.ListLemmas.{all_both, any_here, behind_front}
use Rattle.closed_ends.proofs.ChangeLemmas.{all_in, alone_more, has_listed}
use Rattle.closed_ends.proofs.AddLemmas.{from_map, all_added, self_writes, two_more, cross}

module _ {S O I N : Type 0} (K : Known S O I N) where
  -- one more came, whose ends are apart from those that are there
  pub added_sound : (pipes : S) (ss : List (ClosedSocket N O I)) (s : ClosedSocket N O I) (turns : List (EndId × EndState)) (sealed : List EndId) (heard : Heard N) → IsSound K pipes ss → list_any (is_socket s.number.0) ss ≡ false → AreGivenWith K pipes s.ends.items
      → ComeApart K.exact (map (held_given K.out_name K.in_name) s.ends.items) (has K.out_name K.in_name turns sealed heard ss) → IsSound K pipes (ss ++ s ∷ [])
  added_sound pipes ss s turns sealed heard sound new given come = record {
    halves = subst (AreGivenWith K pipes) (sym (all_added ss s)) (all_both (IsGivenWith K pipes) (all_ends ss) s.ends.items sound.halves given);
    apart = subst (λ l. AllTwo K.exact (map (held_given K.out_name K.in_name) l)) (sym (all_added ss s))
        (two_more K.out_name K.in_name K.exact (all_ends ss) s.ends.items sound.apart come.each (cross K.out_name K.in_name K.exact ss s new sound.alone turns sealed heard come));
    alone = alone_more ss s new sound.alone;
  }

  pub leaves_added : (pipes : S) (c d : ClosedSockets N O I) (s : ClosedSocket N O I) → d.sockets.items ≡ c.sockets.items ++ s ∷ [] → d.came.items ≡ c.came.items ++ map (came_given K.in_name) s.ends.items → d.settled.items ≡ c.settled.items → Leaves K pipes c pipes d
  leaves_added pipes c d s added came settled = record {
    written = λ n u t. t;
    read = λ n r t. t;
    outs = λ h t w u. refl;
    ins = λ h t r. refl;
    writes = λ n w. subst (λ l. All (λ g. is_some g.out ≡ true → IsElse K n g.written) l) (sym now)
        (all_both (λ g. is_some g.out ≡ true → IsElse K n g.written) (all_ends c.sockets.items) s.ends.items w.first
        (λ k e lt has. from_map (λ (x : Place N I × Unit {0}). IsElse K n x.0.written) (came_given K.in_name) s.ends.items (w.since (map (came_given K.in_name) s.ends.items) came) k e lt));
    reads = λ n r. subst (λ l. All (λ g. IsElse K n (K.in_name g.input)) l) (sym now)
        (all_both (λ g. IsElse K n (K.in_name g.input)) (all_ends c.sockets.items) s.ends.items r.first
        (from_map (λ (x : Place N I × Unit {0}). IsElse K n x.0.read) (came_given K.in_name) s.ends.items (r.since (map (came_given K.in_name) s.ends.items) came)));
    came = behind_front c.came.items (map (came_given K.in_name) s.ends.items) d.came.items came;
    settled = λ n u. subst (λ l. All (λ x. IsElse K n x.0) l) settled u;
  }
    where
      now : all_ends d.sockets.items ≡ all_ends c.sockets.items ++ s.ends.items
      now = ap all_ends added ∙ all_added c.sockets.items s

  -- a pipe that none of the ends writes, as the control plane says it
  pub none_writes : (ss : List (ClosedSocket N O I)) (turns : List (EndId × EndState)) (sealed : List EndId) (heard : Heard N) (name : N) → AllAlone ss → NoneWrites K.exact name (has K.out_name K.in_name turns sealed heard ss)
      → All (λ x. (w : O) → x.out ≡ Some w → IsElse K x.written name) (all_ends ss)
  none_writes ss turns sealed heard name alone none = λ k d lt w e ex.
      (all_in (λ x. list_any (writes_of x.end) (all_ends ss) ≡ true → x.written ≡ name → ⊥) ss alone
      (λ i here. from_map (λ (x : Held N). list_any (writes_of x.end) (all_ends ss) ≡ true → x.written ≡ name → ⊥) (held_given K.out_name K.in_name) (ends_of ss i) (none ex i here)) k d lt)
      (self_writes (all_ends ss) k d lt (ap is_some e))

-- ---- halves and ends that are had

module _ {O I : Type 0} where
  pub halves_out : (x : Option O) (i : I) (h : Halves O I) → with_input x i ≡ Some h → (x ≡ Some h.out) × (h.input ≡ i)
  halves_out None i h e = cc
  halves_out (Some out) i h e = let same = one_some (record { out = out; input = i }) h e in (ap (λ (y : Halves O I). Some y.out) same, sym (ap (λ (y : Halves O I). y.input) same))

module _ {N O I : Type 0} where
  module _ (out_name : O → N) (in_name : I → N) (exact : Bool) where
    pub has_read : (e : EndId) (gs : List (Given N O I)) (n : N) → read_in (map (held_given out_name in_name) gs) e ≡ Some n → list_any (is_of e) gs ≡ true
    has_read e [] n h = cc
    has_read e (x ∷ xs) n h = by (is_of e x) h (has_read e xs n)
      where
        by : (b : Bool) → (if b then Some (in_name x.input) else read_in (map (held_given out_name in_name) xs) e) ≡ Some n → (read_in (map (held_given out_name in_name) xs) e ≡ Some n → list_any (is_of e) xs ≡ true) → (b || list_any (is_of e) xs) ≡ true
        by true k later = refl
        by false k later = later k

-- what was met stays met
pub still_met : (found : Front) (met : Bool) → met ≡ true → met_after found met ≡ true
still_met Message met m = m
still_met Empty met m = m
still_met Delimiter met m = refl

-- what was heard is as it was
pub heard_same : {N O I : Type 0} (c d : ClosedSockets N O I) → d.heard.items ≡ c.heard.items → d.joins.items ≡ c.joins.items → heard_in d ≡ heard_in c
heard_same c d heard joins =
    ap (λ (z : List (Notice × Unit {0})). let y : Heard _ = record { notices = map (λ x. x.0) z; joined = standing_joins d.joins.items } in y) heard
    ∙ ap (λ (z : List (JoinNote _ × List ℕ)). let y : Heard _ = record { notices = map (λ x. x.0) c.heard.items; joined = standing_joins z } in y) joins

-- what is said of closed sockets of which nothing more was told
pub seen_kept : {N O I : Type 0} (c d : ClosedSockets N O I) (P : List (EndId × EndState) → List EndId → Heard N → Type 0) → d.turns.items ≡ c.turns.items → d.sealed.items ≡ c.sealed.items → heard_in d ≡ heard_in c
    → P c.turns.items (map (λ x. x.0) c.sealed.items) (heard_in c) → P d.turns.items (map (λ x. x.0) d.sealed.items) (heard_in d)
seen_kept c d P turns sealed same h =
    subst (λ t. P t (map (λ x. x.0) d.sealed.items) (heard_in d)) (sym turns)
    (subst (λ (z : List (EndId × Unit {0})). P c.turns.items (map (λ x. x.0) z) (heard_in d)) (sym sealed)
    (subst (λ (z : Heard _). P c.turns.items (map (λ x. x.0) c.sealed.items) z) (sym same) h))

-- and once one more came
pub seen_added : {N O I : Type 0} (c d : ClosedSockets N O I) (P : List (EndId × EndState) → List EndId → Heard N → List (ClosedSocket N O I) → Type 0) (s : ClosedSocket N O I) → d.sockets.items ≡ c.sockets.items ++ s ∷ [] → d.turns.items ≡ c.turns.items → d.sealed.items ≡ c.sealed.items → d.heard.items ≡ c.heard.items → d.joins.items ≡ c.joins.items
    → P c.turns.items (map (λ x. x.0) c.sealed.items) (heard_in c) (c.sockets.items ++ s ∷ []) → P d.turns.items (map (λ x. x.0) d.sealed.items) (heard_in d) d.sockets.items
seen_added c d P s added turns sealed heard joins h =
    seen_kept c d (λ t z l. P t z l d.sockets.items) turns sealed (heard_same c d heard joins)
    (subst (λ l. P c.turns.items (map (λ x. x.0) c.sealed.items) (heard_in c) l) (sym added) h)
