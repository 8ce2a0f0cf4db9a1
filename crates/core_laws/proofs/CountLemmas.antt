-- What the reaper tells of a pipe that it settles counts what the steps past committed and took.
use Rattle.std.proofs.Common.{◌≡◌, ◌∙◌, ◌||◌, ℕ, Bool, true, false, List, [], ◌∷◌, All, Option, Some, None, length, map, refl, sym, ap, subst, arith, true≢false, if◌then◌else◌, ◌++◌}
use Rattle.std.specs.List.{list_any}
use Rattle.std.proofs.lemmas.List.Elements.{All-head, All-tail}
use Rattle.zq_base.specs.declared.ids.EndId.{EndId}
use Rattle.zq_base.specs.Ends.{PipeId, other_end}
use Rattle.msg_pipe.specs.Known.{Known}
use Rattle.spec_pattern.specs.Half.{Writing, Reading}
use Rattle.spec_pattern.specs.PipeStep.{PipeStep}
use Rattle.spec_control.specs.declared.entry.Did.{Did}
use Rattle.spec_control.specs.declared.entry.Did.TheVariants.{Asked, Delivered, Delimited}
use Rattle.spec_control.specs.declared.entry.Item.{Item}
use Rattle.spec_control.specs.declared.entry.Item.TheVariants.{Event, Seen}
use Rattle.spec_control.specs.Place.{is_here}
use Rattle.spec_control.specs.Control.{Control, begun, is_end, place_of}
use Rattle.spec_control.specs.ControlRun.{IsControlRun, after_all, after_item}
use Rattle.desk.specs.declared.given.Given.{Given}
use Rattle.desk.specs.Holding.{held_given, read_in}
use Rattle.desk.specs.Lent.{HasAll}
use Rattle.desk.specs.Desk.{counts_with}
use Rattle.end_table.specs.Past.{Stands}
use Rattle.end_table.proofs.RowLemmas.{some_same}
use Rattle.end_table.specs.Counting.{counts_with as joined_with}
use Rattle.sock_core.proofs.FindLemmas.{same_end}
use Rattle.spec_run.specs.Event.{seals_in}
use Rattle.spec_run.specs.OwnedRun.{pipe_capacity, AreCountedBy}
use Rattle.socket_laws.specs.Standing.{PastStands, goes_in}
use Rattle.socket_laws.specs.Settled.{PipesAreSettled}
use Rattle.socket_laws.proofs.ChangeLemmas.{goes_so}
use Rattle.socket_laws.proofs.CountLemmas.{Counts, TellsIn, TellsCounts, item_counted, still_counted}
use Rattle.socket_laws.proofs.OfPipesLemmas.{here_not_gone}
use Rattle.socket_laws.proofs.SaidLemmas.{step_seals}
use Rattle.closed_ends.specs.declared.sockets.ClosedSocket.{ClosedSocket}
use Rattle.closed_ends.specs.declared.sockets.ClosedSockets.{ClosedSockets}
use Rattle.closed_ends.specs.Counting.{counts_of}
use Rattle.closed_ends.specs.Has.{all_ends, ends_of, holding_in, input_in, is_of, is_socket}
use Rattle.closed_ends.specs.Sound.{AreSound}
use Rattle.closed_ends.proofs.ChangeLemmas.{among}
use Rattle.core_laws.specs.Counts.{ReaperCountsGoOn}
use Rattle.core_laws.proofs.HereLemmas.{IsHere, of_socket, all_here}

none_some : {X : Type 0} {x : X} → None ≡ Some x → ⊥
none_some e = Prim.grind arith

module _ {N O I : Type 0} (out_name : O → N) (in_name : I → N) (c : Control) (names : PipeId → Option N) (e : EndId) where
  -- an end among these, that reads the pipe of this name
  pub record Reads (gs : List (Given N O I)) (n : N) : Type 0 where
    pub any : list_any (is_of e) gs ≡ true
    pub named : names (other_end e) ≡ Some n
    pub here : is_here (place_of c e) ≡ true

  pub reads : (gs : List (Given N O I)) → All (IsHere in_name c names) gs → (n : N) → read_in (map (held_given out_name in_name) gs) e ≡ Some n → Reads gs n
  reads [] all n h = absurd (none_some h)
  reads (g ∷ gs) all n h = by (is_end e g.end) refl (λ k. reads gs (All-tail (IsHere in_name c names) g gs all) n k) h
    where
      mine : IsHere in_name c names g
      mine = All-head (IsHere in_name c names) g gs all

      by : (b : Bool) → is_end e g.end ≡ b → (read_in (map (held_given out_name in_name) gs) e ≡ Some n → Reads gs n) → (if b then Some (in_name g.input) else read_in (map (held_given out_name in_name) gs) e) ≡ Some n → Reads (g ∷ gs) n
      by true is rest k = record {
        any = ap (λ (b : Bool). b || list_any (is_of e) gs) is;
        named = ap (λ (d : EndId). names (other_end d)) (same_end e g.end is) ∙ mine.read ∙ k;
        here = ap (λ (d : EndId). is_here (place_of c d)) (same_end e g.end is) ∙ mine.here;
      }
      by false is rest k = let r = rest k in record { any = ap (λ (b : Bool). b || list_any (is_of e) gs) is ∙ r.any; named = r.named; here = r.here }

  -- its reading half is there, of the pipe of its name
  record HasInput (gs : List (Given N O I)) : Type 0 where
    half : I
    there : input_in gs e ≡ Some half
    named : names (other_end e) ≡ Some (in_name half)

  has_input : (gs : List (Given N O I)) → All (IsHere in_name c names) gs → list_any (is_of e) gs ≡ true → HasInput gs
  has_input [] all h = absurd (true≢false (sym h))
  has_input (g ∷ gs) all h = by (is_end e g.end) refl (λ k. has_input gs (All-tail (IsHere in_name c names) g gs all) k) h
    where
      by : (b : Bool) → is_end e g.end ≡ b → (list_any (is_of e) gs ≡ true → HasInput gs) → (b || list_any (is_of e) gs) ≡ true → HasInput (g ∷ gs)
      by true is rest k = record {
        half = g.input;
        there = ap (λ (b : Bool). if b then Some g.input else input_in gs e) is;
        named = ap (λ (d : EndId). names (other_end d)) (same_end e g.end is) ∙ (All-head (IsHere in_name c names) g gs all).read;
      }
      by false is rest k = let r = rest k in record { half = r.half; there = ap (λ (b : Bool). if b then Some g.input else input_in gs e) is ∙ r.there; named = r.named }

  -- an end that is read is one of a closed socket's
  pub socket_there : (ss : List (ClosedSocket N O I)) (i : ℕ) (n : N) → read_in (map (held_given out_name in_name) (ends_of ss i)) e ≡ Some n → list_any (is_socket i) ss ≡ true
  socket_there [] i n h = absurd (none_some h)
  socket_there (s ∷ ss) i n h = by (is_socket i s) (socket_there ss i n) h
    where
      by : (b : Bool) → (read_in (map (held_given out_name in_name) (ends_of ss i)) e ≡ Some n → list_any (is_socket i) ss ≡ true)
          → read_in (map (held_given out_name in_name) (if b then s.ends.items else ends_of ss i)) e ≡ Some n → (b || list_any (is_socket i) ss) ≡ true
      by true rest k = refl
      by false rest k = rest k

module _ {S O I N : Type 0} (K : Known S O I N) (T : Type 0) (one_out : (s : S) (o p : O) → K.out_name o ≡ K.out_name p → K.writing s o ≡ K.writing s p) (one_in : (s : S) (i j : I) → K.in_name i ≡ K.in_name j → K.reading s i ≡ K.reading s j)
    (settled : PipesAreSettled N T) (io : ℕ) (items : List (Item N T)) (run : IsControlRun (begun io) items) (names : PipeId → Option N) (pipes : S) (closed : ClosedSockets N O I) (sound : AreSound K pipes closed.sockets.items)
    (has : HasAll names (after_all items (begun io)) (holding_in K.out_name K.in_name closed)) (past : List PipeStep) (stands : PastStands K (after_all items (begun io)) names pipes past) where
  abbrev c : Control
  c = after_all items (begun io)

  counted : (i : ℕ) (e : EndId) (writer : O) → read_in (map (held_given K.out_name K.in_name) (ends_of closed.sockets.items i)) e ≡ Some (K.out_name writer) → Counts past e (counts_of K pipes closed.sockets.items e writer)
  counted i e writer pipe = subst (λ (x : Option I). Counts past e (joined_with K pipes writer x)) (sym input.there) (record {
    sent = ap (λ (v : Writing). length v.committed) (one_out pipes writer so.out (sym so.out_is)) ∙ ap length so.committed;
    got = ap (λ (v : Reading). length v.taken) (one_in pipes input.half so.input (some_same (K.in_name input.half) (K.out_name writer) (sym input.named ∙ r.named) ∙ sym so.in_is)) ∙ ap length so.taken;
  })
    where
      r : Reads K.out_name K.in_name c names e (ends_of closed.sockets.items i) (K.out_name writer)
      r = reads K.out_name K.in_name c names e (ends_of closed.sockets.items i) (of_socket K c names pipes closed sound has i (socket_there K.out_name K.in_name c names e closed.sockets.items i (K.out_name writer) pipe)) (K.out_name writer) pipe

      input : HasInput K.out_name K.in_name c names e (all_ends closed.sockets.items)
      input = has_input K.out_name K.in_name c names e (all_ends closed.sockets.items) (all_here K c names pipes closed sound has) (among (is_of e) i closed.sockets.items r.any)

      so : Stands K (goes_in c names) (pipe_capacity c) pipes past (other_end e) (K.out_name writer)
      so = stands.past_is.stands (other_end e) (K.out_name writer) (goes_so c names (other_end e) (K.out_name writer) (settled.read io items run e (here_not_gone (place_of c e) r.here)) r.named)

  tells : (item : Item N T) → counts_with K.out_name (λ e writer. counts_of K pipes closed.sockets.items e writer) (holding_in K.out_name K.in_name closed) item → TellsCounts past item
  tells (Seen sight) counts = tt
  tells (Event entry) counts = by entry.did counts
    where
      by : (did : Did N T) → counts_with K.out_name (λ e writer. counts_of K pipes closed.sockets.items e writer) (holding_in K.out_name K.in_name closed) (Event (record { by = 0; did = did })) → TellsIn past did
      by (Asked req reply h) k = tt
      by (Delivered slot letter h) k = λ e told word settles.
          let x = k e word in
          subst (Counts past e) (some_same (counts_of K pipes closed.sockets.items e x.writer) told (sym x.told_is ∙ settles)) (counted letter.to.0 e x.writer x.pipe)
      by (Delimited e h) k = tt

pub reaper_counts_go_on : {S O I N : Type 0} (K : Known S O I N) (T : Type 0) → ((s : S) (o p : O) → K.out_name o ≡ K.out_name p → K.writing s o ≡ K.writing s p) → ((s : S) (i j : I) → K.in_name i ≡ K.in_name j → K.reading s i ≡ K.reading s j)
    → PipesAreSettled N T → ReaperCountsGoOn K T
reaper_counts_go_on {N = N} K T one_out one_in settled io items item run fits names pipes closed sound has counts past stands all =
    let c = after_all items (begun io) in
    subst (λ (l : List PipeStep). AreCountedBy (past ++ l) (after_item item c).settlements) (sym (step_seals N T (seals_in (record { found = c; item = item }))))
    (still_counted past (seals_in (record { found = c; item = item })) (after_item item c).settlements
    (item_counted past c item fits (tells K T one_out one_in settled io items run names pipes closed sound has past stands item counts) all))
