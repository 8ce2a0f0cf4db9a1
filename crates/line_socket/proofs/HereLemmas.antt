-- An end of a lent socket that reads on is held with its writing half, and awaits its delimiter.
use Rattle.std.proofs.Common.{◌≡◌, ◌∙◌, ◌+◌, ℕ, true, List, ◌∷◌, drop, map, Option, Some, None, refl, sym, ap, true≢false}
use Rattle.zq_base.specs.declared.ids.EndId.{EndId}
use Rattle.spec_control.specs.declared.end.EndState.TheVariants.{Active, DelimiterGot, WaitDelimiter, AckSent, AskedOnce, AskedTwice, Gone}
use Rattle.spec_control.specs.Place.{Place as Where, Unmade, Away, At}
use Rattle.spec_control.specs.Control.{begun, place_of}
use Rattle.spec_control.specs.ControlRun.{after_all}
use Rattle.spec_control.specs.Held.{Held}
use Rattle.spec_control.specs.Moments.{left_after}
use Rattle.desk.specs.Holding.{has_end}
use Rattle.desk.specs.Lent.{has_writer}
use Rattle.desk.specs.declared.given.Given.{Given}
use Rattle.msg_pipe.specs.Known.{Known}
use Rattle.any_sock.specs.declared.any_sock.AnySock.{AnySock}
use Rattle.end_table.specs.Places.{held_in, writes_in}
use Rattle.sock_core.specs.declared.sock.SockCore.{SockCore}
use Rattle.sock_core.specs.Has.{holding_in}
use Rattle.sock_calls.specs.Calls.{owner_of, holding_of}
use Rattle.spec_run.specs.OpenSocket.{awaits_delimiter}
use Rattle.line_calls.specs.Reading.{ReadsOnAt}
use Rattle.line_calls.specs.declared.found.Reader.{Reader}
use Rattle.line_socket.specs.Standing.{kind_told}
use Rattle.line_socket.specs.Looking.{HasWhole}
use Rattle.plain_desk.specs.Lent.{Lent, moments_of}
use Rattle.line_socket.specs.Owned.{IsLentTo, IsThereFor, has_met_in}
use Rattle.line_socket.specs.Readers.{held_places, readers_in, readers_from}
use Rattle.line_socket.specs.ReadersOwed.{awaits_at, here, own_ends, reads_told}
use Rattle.line_socket.proofs.ReadingLemmas.{goes_on, stands_among}
use Rattle.line_socket.proofs.StandingLemmas.{among_held}

-- ---- where an end is that awaits its delimiter

pub awaits_is : (w : Where) → awaits_delimiter w ≡ true → w ≡ At WaitDelimiter
awaits_is Unmade h = absurd (true≢false (sym h))
awaits_is Away h = absurd (true≢false (sym h))
awaits_is (At Active) h = absurd (true≢false (sym h))
awaits_is (At DelimiterGot) h = absurd (true≢false (sym h))
awaits_is (At WaitDelimiter) h = refl
awaits_is (At AckSent) h = absurd (true≢false (sym h))
awaits_is (At AskedOnce) h = absurd (true≢false (sym h))
awaits_is (At AskedTwice) h = absurd (true≢false (sym h))
awaits_is (At Gone) h = absurd (true≢false (sym h))

module _ {W N O I S T : Type 0} (K : Known S O I N) (before : S) (d : Lent (Given N O I) N T) (n : ℕ) where
  -- an end stands behind so many of those that are held, and awaits its delimiter, as its caller's moments left it
  pub record IsReading (s : SockCore AnySock W N O I) (reader : Reader) : Type 0 where
    pub stands : drop reader.place (map (λ (x : Held N). x.end) (held_in s.ends.places.items)) ≡ reader.end ∷ drop (reader.place + 1) (map (λ (x : Held N). x.end) (held_in s.ends.places.items))
    pub here : has_end reader.end ((holding_in (kind_told s.kind) s).ends s.number.0) ≡ true
    pub now : place_of (after_all d.items (begun d.past.workers)) reader.end ≡ At WaitDelimiter
    pub left : place_of (left_after s.number.0 (moments_of d)) reader.end ≡ At WaitDelimiter

  pub is_reading : (s : SockCore AnySock W N O I) → IsLentTo K before d n s → (reader : Reader) →
      readers_in (drop reader.place (held_places s.ends.places.items)) ≡ reader.end ∷ readers_in (drop (reader.place + 1) (held_places s.ends.places.items)) → IsReading s reader
  is_reading s is reader reads =
      let c = after_all d.items (begun d.past.workers) in
      let held = map (λ (x : Held N). x.end) (held_in s.ends.places.items) in
      let told = reads_told K before d n s is in
      let on = goes_on (awaits_at c) held reader.place reader.end (sym (told reader.place) ∙ reads ∙ ap (λ (l : List EndId). reader.end ∷ l) (told (reader.place + 1))) in
      let among : has_end reader.end (held_in s.ends.places.items) ≡ true = among_held (held_in s.ends.places.items) reader.end ∙ stands_among held (drop (reader.place + 1) held) reader.place reader.end on.0 in
      let has : has_end reader.end ((holding_in (kind_told s.kind) s).ends s.number.0) ≡ true = ap (has_end reader.end) (own_ends K before d n s is) ∙ among in
      let at = awaits_is (place_of c reader.end) on.1 in
      record {
        stands = on.0;
        here = has;
        now = at;
        left = is.owned.has.states s.number.0 reader.end is.owned.held has ∙ sym ((here K before d n s is).states reader.end has) ∙ at;
      }

  whole_at : (s : SockCore AnySock W N O I) → IsLentTo K before d n s → (reader : Reader) → IsReading s reader → writes_in s.ends.places.items reader.end ≡ true
  whole_at s is reader reads = is.owned.has.writes s.number.0 reader.end is.owned.held reads.here ∙ ap has_writer reads.left

  pub has_whole : (s : Option (SockCore AnySock W N O I)) → IsThereFor K before d n s → (reader : Reader) → ReadsOnAt (readers_from s) reader → HasWhole reader.end s
  has_whole None is reader reads = absurd is
  has_whole (Some s) is reader reads = whole_at s is reader (is_reading s is reader reads)

  -- it is one of the ends that the socket has
  pub reader_here : (s : Option (SockCore AnySock W N O I)) → IsThereFor K before d n s → (reader : Reader) → ReadsOnAt (readers_from s) reader → has_end reader.end ((holding_of kind_told s).ends (owner_of s)) ≡ true
  reader_here None is reader reads = absurd is
  reader_here (Some s) is reader reads = (is_reading s is reader reads).here

-- one that has met its delimiter is at it
pub met_there : {W N O I : Type 0} (s : Option (SockCore AnySock W N O I)) (e : EndId) → has_met_in s e ≡ true → (holding_of kind_told s).at_delimiter e ≡ true
met_there None e h = h
met_there (Some s) e h = h
