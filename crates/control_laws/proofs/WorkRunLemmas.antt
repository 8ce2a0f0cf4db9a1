-- Over a run, what all items say of a listener or a session is so by the rows, and a caller that knows one knows all of it.
use Rattle.std.specs.Prelude.{◌≡◌, ◌≢◌, ◌==◌, ◌&&◌, ◌||◌, ℕ, zero, suc, Bool, true, false, not, cond, List, [], ◌∷◌, Option, Some, None, filter, if◌then◌else◌, map, refl}
use Rattle.std.proofs.Common.{arith, sym, ap, ◌∙◌, subst}
use Rattle.std.proofs.lemmas.Bool.{eqb-true}
use Rattle.zq_base.specs.declared.ids.EndId.{EndId}
use Rattle.spec_control.specs.declared.entry.Did.{Did}
use Rattle.spec_control.specs.declared.entry.Did.TheVariants.{Asked, Delivered, Delimited}
use Rattle.spec_control.specs.declared.entry.Item.{Item}
use Rattle.spec_control.specs.declared.entry.Item.TheVariants.{Event, Seen}
use Rattle.spec_control.specs.declared.letter.Word.{Word}
use Rattle.spec_control.specs.declared.letter.Word.TheVariants.{Own, Plug, TermReq, Term, TermAck, PipeBind, PipeTerm, PipeTermAck, Stop, Reap}
use Rattle.spec_control.specs.declared.object.ObjKind.{ObjKind}
use Rattle.spec_control.specs.declared.object.ObjKind.TheVariants.{Root, Socket as IsSocket, Listener, Session}
use Rattle.spec_control.specs.declared.request.Req.TheVariants.{Socket as MakeSocket, AskTerm, Bind, Connect, Unbind, Disconnect, Close, Accepted, Shaken, AskEnd, AskOver, OutputOver}
use Rattle.spec_control.specs.declared.end.EndState.TheVariants.{Active, DelimiterGot, WaitDelimiter, AckSent, AskedOnce, AskedTwice, Gone}
use Rattle.spec_control.specs.declared.stage.Stage.{Stage}
use Rattle.spec_control.specs.declared.stage.Stage.TheVariants.{Alive, Told, Ending, Finished, Cleared}
use Rattle.spec_control.specs.Place.{Place, Unmade, Away, At, is_gone, is_here, is_unmade}
use Rattle.spec_control.specs.Stage.{has_ended, is_coming, was_asked}
use Rattle.spec_control.specs.Row.{is_listener, is_session, is_socket, owner_fits}
use Rattle.spec_control.specs.Rows.{PairRow, obj, is_owner}
use Rattle.spec_control.specs.Control.{Control, begun}
use Rattle.spec_control.specs.After.{after}
use Rattle.spec_control.specs.ControlRun.{IsControlRun, after_all}
use Rattle.spec_control.specs.Held.{Held, ends_after, items_by}
use Rattle.spec_control.specs.Has.{AreBy, made_by}
use Rattle.spec_control.specs.OwnAsks.{Known, is_none, is_over, known_after, known_at_word, known_in, known_over, unknown}
use Rattle.desk.specs.Lent.{here_ends, owner_by, place_by}
use Rattle.control_laws.proofs.ListLemmas.{never}
use Rattle.control_laws.specs.Kept.{Kept}
use Rattle.control_laws.proofs.EndLemmas.{kept_but}
use Rattle.control_laws.proofs.HeldStepLemmas.{ends_are_here}
use Rattle.control_laws.proofs.LinkLemmas.{at_owner}
use Rattle.control_laws.proofs.OwnFoldLemmas.{KnowsAll, knows_all}
use Rattle.control_laws.proofs.PluggedLemmas.{SocketsServe, serve_after}
use Rattle.control_laws.proofs.RootLemmas.{begun_kept, runs_are_kept}
use Rattle.control_laws.proofs.RowLemmas.{all_is_over}
use Rattle.control_laws.proofs.RunLemmas.{after_kept}
use Rattle.control_laws.proofs.StepLemmas.{inv_of}
use Rattle.control_laws.proofs.TellLemmas.{rows_of}
use Rattle.control_laws.proofs.UnpluggedLemmas.{serves_run}
use Rattle.control_laws.proofs.WorkFlagLemmas.{is_worker, works}
use Rattle.control_laws.proofs.WorkKindLemmas.{AreKinds, kinds_after}
use Rattle.control_laws.proofs.WorkOutputLemmas.{IsOutput, output_after}
use Rattle.control_laws.proofs.WorkStepLemmas.{OverAs, ToldAs, over_after, told_after}

-- what is known of an object agrees with its row
pub record Agrees (c : Control) (i : ℕ) (k : Known) : Type 0 where
  pub kinds : AreKinds c i k
  pub told : ToldAs i c k
  pub over : OverAs i c k
  pub output : IsOutput i c k

begun_agrees : (workers i : ℕ) → i ≢ 0 → Agrees (begun workers) i unknown
begun_agrees workers zero more = absurd (more refl)
begun_agrees workers (suc i) more = record {
  kinds = record { listener = λ h. absurd (never h); session = λ h. absurd (never h); accepted = λ h. absurd (never h) };
  told = record { is = λ w. absurd (never w); unmade = λ past. refl };
  over = record { is = λ w. absurd (never w); unmade = λ past. refl };
  output = record { output = refl; ended = λ h. refl };
}

module _ {N S : Type 0} where
  agrees_over : (i : ℕ) → i ≢ 0 → (items : List (Item N S)) (c : Control) (k : Known) → Kept c → SocketsServe c.rows c.boxes → IsControlRun c items → Agrees c i k → Agrees (after_all items c) i (known_over i k items)
  agrees_over i more [] c k kept serve run now = now
  agrees_over i more (Event entry ∷ items) c k kept serve run now =
      agrees_over i more items (after entry.did c) (known_in i entry.did k) (after_kept c entry.did kept run.0) (serve_after c entry.did kept run.0 serve) run.1 (record {
        kinds = kinds_after c kept serve i entry.did run.0 k now.kinds;
        told = told_after i more c entry.did kept run.0 k now.told;
        over = over_after i c kept k now.over entry.did run.0;
        output = output_after i more c kept k now.output entry.did run.0;
      })
  agrees_over i more (Seen sight ∷ items) c k kept serve run now = agrees_over i more items c k kept serve run.1 now

  kinds_over : (i : ℕ) (items : List (Item N S)) (c : Control) (k : Known) → Kept c → SocketsServe c.rows c.boxes → IsControlRun c items → AreKinds c i k → AreKinds (after_all items c) i (known_over i k items)
  kinds_over i [] c k kept serve run now = now
  kinds_over i (Event entry ∷ items) c k kept serve run now =
      kinds_over i items (after entry.did c) (known_in i entry.did k) (after_kept c entry.did kept run.0) (serve_after c entry.did kept run.0 serve) run.1 (kinds_after c kept serve i entry.did run.0 k now)
  kinds_over i (Seen sight ∷ items) c k kept serve run now = kinds_over i items c k kept serve run.1 now

-- ---- who knows by some items knows by all
record Below (x y : Known) : Type 0 where
  listener : x.listener ≡ true → y.listener ≡ true
  session : x.session ≡ true → y.session ≡ true
  accepted : x.accepted ≡ true → y.accepted ≡ true

below : (x : Known) → Below x x
below x = record { listener = λ h. h; session = λ h. h; accepted = λ h. h }

below_on : (x y z : Known) → Below x y → Below y z → Below x z
below_on x y z a b = record { listener = λ h. b.listener (a.listener h); session = λ h. b.session (a.session h); accepted = λ h. b.accepted (a.accepted h) }

if_below : (b : Bool) (x y nx ny : Known) → Below x y → Below nx ny → Below (if b then nx else x) (if b then ny else y)
if_below true x y nx ny old now = now
if_below false x y nx ny old now = old

if_more : (b : Bool) (x now : Known) → Below x now → Below x (if b then now else x)
if_more true x now more = more
if_more false x now more = below x

like : (x y nx ny : Known) → Below x y → nx.listener ≡ x.listener → nx.session ≡ x.session → nx.accepted ≡ x.accepted → ny.listener ≡ y.listener → ny.session ≡ y.session → ny.accepted ≡ y.accepted → Below nx ny
like x y nx ny b p q r s t u = record { listener = λ h. s ∙ b.listener (sym p ∙ h); session = λ h. t ∙ b.session (sym q ∙ h); accepted = λ h. u ∙ b.accepted (sym r ∙ h) }

word_below : (word : Word) (left : Bool) (x y : Known) → Below x y → Below (known_at_word word left x) (known_at_word word left y)
word_below (Own child) left x y b = b
word_below (Plug None) left x y b = record { listener = λ h. refl; session = b.session; accepted = b.accepted }
word_below (Plug (Some e)) left x y b = record { listener = b.listener; session = λ h. refl; accepted = b.accepted }
word_below (TermReq child) left x y b = b
word_below Term left x y b = like x y (known_at_word Term left x) (known_at_word Term left y) b refl refl refl refl refl refl
word_below (TermAck child) left x y b = like x y (known_at_word (TermAck child) left x) (known_at_word (TermAck child) left y) b refl refl refl refl refl refl
word_below (PipeBind e peer) left x y b = b
word_below (PipeTerm e) left x y b = b
word_below (PipeTermAck e) left x y b = like x y (known_at_word (PipeTermAck e) left x) (known_at_word (PipeTermAck e) left y) b refl refl refl refl refl refl
word_below Stop left x y b = b
word_below (Reap socket) left x y b = b

word_more : (word : Word) (left : Bool) (x : Known) → Below x (known_at_word word left x)
word_more (Own child) left x = record { listener = λ h. h; session = λ h. h; accepted = λ h. h }
word_more (Plug None) left x = record { listener = λ h. refl; session = λ h. h; accepted = λ h. h }
word_more (Plug (Some e)) left x = record { listener = λ h. h; session = λ h. refl; accepted = λ h. h }
word_more (TermReq child) left x = record { listener = λ h. h; session = λ h. h; accepted = λ h. h }
word_more Term left x = record { listener = λ h. h; session = λ h. h; accepted = λ h. h }
word_more (TermAck child) left x = record { listener = λ h. h; session = λ h. h; accepted = λ h. h }
word_more (PipeBind e peer) left x = record { listener = λ h. h; session = λ h. h; accepted = λ h. h }
word_more (PipeTerm e) left x = record { listener = λ h. h; session = λ h. h; accepted = λ h. h }
word_more (PipeTermAck e) left x = record { listener = λ h. h; session = λ h. h; accepted = λ h. h }
word_more Stop left x = record { listener = λ h. h; session = λ h. h; accepted = λ h. h }
word_more (Reap socket) left x = record { listener = λ h. h; session = λ h. h; accepted = λ h. h }

module _ {N S : Type 0} (i : ℕ) where
  below_in : (did : Did N S) (x y : Known) → Below x y → Below (known_in i did x) (known_in i did y)
  below_in (Asked (MakeSocket kind options) reply h) x y b = if_below (is_owner i (made_by reply)) x y (record x { open_socket = true }) (record y { open_socket = true }) b (like x y (record x { open_socket = true }) (record y { open_socket = true }) b refl refl refl refl refl refl)
  below_in (Asked AskTerm reply h) x y b = b
  below_in (Asked (Bind o at) reply h) x y b = b
  below_in (Asked (Connect o at) reply h) x y b = b
  below_in (Asked (Unbind o at) reply h) x y b = b
  below_in (Asked (Disconnect o at) reply h) x y b = b
  below_in (Asked (Close o) reply h) x y b = if_below (o.0 == i) x y (record x { open_socket = false }) (record y { open_socket = false }) b (like x y (record x { open_socket = false }) (record y { open_socket = false }) b refl refl refl refl refl refl)
  below_in (Asked (Accepted o) reply h) x y b = if_below (is_owner i (made_by reply)) x y (record x { session = true; accepted = true }) (record y { session = true; accepted = true }) b (record { listener = b.listener; session = λ h. refl; accepted = λ h. refl })
  below_in (Asked (Shaken o peer) reply h) x y b = if_below (o.0 == i) x y (record x { shaken = true }) (record y { shaken = true }) b (like x y (record x { shaken = true }) (record y { shaken = true }) b refl refl refl refl refl refl)
  below_in (Asked (AskEnd e reason) reply h) x y b = b
  below_in (Asked (AskOver o) reply h) x y b = if_below (o.0 == i) x y (record x { asked_over = true }) (record y { asked_over = true }) b (like x y (record x { asked_over = true }) (record y { asked_over = true }) b refl refl refl refl refl refl)
  below_in (Asked (OutputOver o) reply h) x y b = if_below (o.0 == i) x y (record x { output_left = false }) (record y { output_left = false }) b (like x y (record x { output_left = false }) (record y { output_left = false }) b refl refl refl refl refl refl)
  below_in (Delivered slot letter h) x y b = if_below (letter.to.0 == i) x y (known_at_word letter.word h.output_left x) (known_at_word letter.word h.output_left y) b (word_below letter.word h.output_left x y b)
  below_in (Delimited e h) x y b = b

  more_in : (did : Did N S) (x : Known) → Below x (known_in i did x)
  more_in (Asked (MakeSocket kind options) reply h) x = if_more (is_owner i (made_by reply)) x (record x { open_socket = true }) (record { listener = λ h. h; session = λ h. h; accepted = λ h. h })
  more_in (Asked AskTerm reply h) x = below x
  more_in (Asked (Bind o at) reply h) x = below x
  more_in (Asked (Connect o at) reply h) x = below x
  more_in (Asked (Unbind o at) reply h) x = below x
  more_in (Asked (Disconnect o at) reply h) x = below x
  more_in (Asked (Close o) reply h) x = if_more (o.0 == i) x (record x { open_socket = false }) (record { listener = λ h. h; session = λ h. h; accepted = λ h. h })
  more_in (Asked (Accepted o) reply h) x = if_more (is_owner i (made_by reply)) x (record x { session = true; accepted = true }) (record { listener = λ h. h; session = λ h. refl; accepted = λ h. refl })
  more_in (Asked (Shaken o peer) reply h) x = if_more (o.0 == i) x (record x { shaken = true }) (record { listener = λ h. h; session = λ h. h; accepted = λ h. h })
  more_in (Asked (AskEnd e reason) reply h) x = below x
  more_in (Asked (AskOver o) reply h) x = if_more (o.0 == i) x (record x { asked_over = true }) (record { listener = λ h. h; session = λ h. h; accepted = λ h. h })
  more_in (Asked (OutputOver o) reply h) x = if_more (o.0 == i) x (record x { output_left = false }) (record { listener = λ h. h; session = λ h. h; accepted = λ h. h })
  more_in (Delivered slot letter h) x = if_more (letter.to.0 == i) x (known_at_word letter.word h.output_left x) (word_more letter.word h.output_left x)
  more_in (Delimited e h) x = below x

  below_over : (k : ℕ) (items : List (Item N S)) (x y : Known) → Below x y → Below (known_over i x (items_by k items)) (known_over i y items)
  below_over k [] x y b = b
  below_over k (Event entry ∷ items) x y b = by (entry.by == k) (λ z now. below_over k items z (known_in i entry.did y) now)
    where
      by : (c : Bool) → ((z : Known) → Below z (known_in i entry.did y) → Below (known_over i z (items_by k items)) (known_over i (known_in i entry.did y) items)) →
          Below (known_over i x (cond c (Event entry ∷ items_by k items) (items_by k items))) (known_over i (known_in i entry.did y) items)
      by true next = next (known_in i entry.did x) (below_in entry.did x y b)
      by false next = next x (below_on x y (known_in i entry.did y) b (more_in entry.did y))
  below_over k (Seen sight ∷ items) x y b = by (sight.by == k) (below_over k items x y b)
    where
      by : (c : Bool) → Below (known_over i x (items_by k items)) (known_over i y items) → Below (known_over i x (cond c (Seen sight ∷ items_by k items) (items_by k items))) (known_over i y items)
      by true now = now
      by false now = now

-- ---- a listener or a session
ended_asked : (s : Stage) → has_ended s ≡ true → was_asked s ≡ true
ended_asked Alive h = absurd (never h)
ended_asked Told h = absurd (never h)
ended_asked Ending h = absurd (never h)
ended_asked Finished h = refl
ended_asked Cleared h = refl

past_gone : (p : Place) → (is_gone p || is_unmade p) ≡ true → is_here p ≡ false
past_gone Unmade h = refl
past_gone Away h = absurd (never h)
past_gone (At Active) h = absurd (never h)
past_gone (At DelimiterGot) h = absurd (never h)
past_gone (At WaitDelimiter) h = absurd (never h)
past_gone (At AckSent) h = absurd (never h)
past_gone (At AskedOnce) h = absurd (never h)
past_gone (At AskedTwice) h = absurd (never h)
past_gone (At Gone) h = refl

none_here : (pairs : List PairRow) (i : ℕ) → ((e : EndId) → owner_by pairs e ≡ i → is_here (place_by pairs e) ≡ false) → (es : List EndId) → here_ends pairs es i ≡ []
none_here pairs i none [] = refl
none_here pairs i none (e ∷ es) = by (owner_by pairs e == i) refl (none_here pairs i none es)
  where
    by : (b : Bool) → (owner_by pairs e == i) ≡ b → here_ends pairs es i ≡ [] → filter (λ d. is_here (place_by pairs d)) (cond b (e ∷ filter (λ d. owner_by pairs d == i) es) (filter (λ d. owner_by pairs d == i) es)) ≡ []
    by true own rest = ap (λ (x : Bool). cond x (e ∷ here_ends pairs es i) (here_ends pairs es i)) (none e (eqb-true (owner_by pairs e) i own)) ∙ rest
    by false own rest = rest

none_of_map : {X Y : Type 0} (f : X → Y) (xs : List X) → map f xs ≡ [] → is_none xs ≡ true
none_of_map f [] h = refl
none_of_map f (x ∷ xs) h = absurd (cons h)
  where
    cons : f x ∷ map f xs ≡ [] → ⊥
    cons g = Prim.grind arith

pub worker_no_socket : (k : ObjKind) → is_worker k ≡ true → is_socket k ≡ false
worker_no_socket Root h = absurd (never h)
worker_no_socket (IsSocket kind) h = absurd (never h)
worker_no_socket Listener h = refl
worker_no_socket Session h = refl

pub not_root : (c : Control) → Kept c → (i : ℕ) → works (obj c.rows i) ≡ true → i ≢ 0
not_root c kept i is zero_is = none (obj c.rows 0).kind (ap (λ (w : Option ℕ). owner_fits (obj c.rows 0).kind w) (sym kept.shape.root) ∙ at_owner (obj c.rows 0) ((inv_of (rows_of (kept_but 0 c kept))).fits 0)) (subst (λ (n : ℕ). works (obj c.rows n) ≡ true) zero_is is)
  where
    none : (k : ObjKind) → owner_fits k None ≡ true → is_worker k ≡ true → ⊥
    none Root f w = never w
    none (IsSocket kind) f w = never w
    none Listener f w = never f
    none Session f w = never f

module _ {N S : Type 0} (workers : ℕ) (items : List (Item N S)) (run : IsControlRun (begun workers) items) (i : ℕ) where
  abbrev c : Control
  c = after_all items (begun workers)

  all_kinds : AreKinds c i (known_after i items)
  all_kinds =
      kinds_over i items (begun workers) unknown (begun_kept workers) (serves_run workers (let none : List (Item N S) = [] in none) tt).sockets run
      (record { listener = λ h. absurd (never h); session = λ h. absurd (never h); accepted = λ h. absurd (never h) })

  all_agrees : i ≢ 0 → Agrees c i (known_after i items)
  all_agrees more =
      agrees_over i more items (begun workers) unknown (begun_kept workers) (serves_run workers (let none : List (Item N S) = [] in none) tt).sockets run (begun_agrees workers i more)

  -- who has ended is over by the items
  ended_over : works (obj c.rows i) ≡ true → Agrees c i (known_after i items) → has_ended (obj c.rows i).stage ≡ true → is_over i items ≡ true
  ended_over is agrees ended =
      ap (λ (b : Bool). (b && is_none (ends_after i items)) && not (known_after i items).output_left) (sym (agrees.told.is is) ∙ ended_asked (obj c.rows i).stage ended)
      ∙ ap (λ (b : Bool). b && not (known_after i items).output_left) (none_of_map (λ (x : Held N). x.end) (ends_after i items) (ends_are_here N S workers items run i free ∙ none_here c.rows.pairs i gone c.attached))
      ∙ ap not (agrees.output.ended ended)
    where
      free : (is_socket (obj c.rows i).kind && is_coming (obj c.rows i).request) ≡ false
      free = ap (λ (b : Bool). b && is_coming (obj c.rows i).request) (worker_no_socket (obj c.rows i).kind is)

      gone : (e : EndId) → owner_by c.rows.pairs e ≡ i → is_here (place_by c.rows.pairs e) ≡ false
      gone e own = past_gone (place_by c.rows.pairs e) ((all_is_over c.rows i (runs_are_kept N S workers items run).reached ended).ends e.pair.0 e.a own)

  -- what a caller knows of a listener or a session that it has
  pub record Knows (k : ℕ) : Type 0 where
    pub works_so : works (obj c.rows i) ≡ true
    pub more : i ≢ 0
    pub plugged : (obj c.rows i).plugged ≡ true
    pub all : KnowsAll i more items k
    pub agrees : Agrees c i (known_after i (items_by k items))
    pub lives : is_over i (items_by k items) ≡ false → has_ended (obj c.rows i).stage ≡ false

  knows_of : AreBy [] (begun workers) items → (k : ℕ) → works (obj c.rows i) ≡ true → (obj c.rows i).plugged ≡ true → (known_after i (items_by k items) ≡ unknown → ⊥) → Knows k
  knows_of may k is plugged known =
      let more = not_root c (runs_are_kept N S workers items run) i is in
      let all = knows_all i more workers items run may k (worker_no_socket (obj c.rows i).kind is) known in
      record {
        works_so = is;
        more = more;
        plugged = plugged;
        all = all;
        agrees = subst (λ (k : Known). Agrees c i k) (sym all.known) (all_agrees more);
        lives = λ free. by (has_ended (obj c.rows i).stage) refl more all free;
      }
    where
      by : (b : Bool) → has_ended (obj c.rows i).stage ≡ b → (more : i ≢ 0) → KnowsAll i more items k → is_over i (items_by k items) ≡ false → b ≡ false
      by true ended more all free =
          absurd (never (sym free
          ∙ ap (λ (n : Known). (n.told && is_none (ends_after i (items_by k items))) && not n.output_left) all.known
          ∙ ap (λ (es : List (Held N)). ((known_after i items).told && is_none es) && not (known_after i items).output_left) all.ends
          ∙ ended_over is (all_agrees more) ended))
      by false e more all free = refl

  own_below : (k : ℕ) → Below (known_after i (items_by k items)) (known_after i items)
  own_below k = below_over i k items unknown unknown (below unknown)

  listener_works : (k : ObjKind) → is_listener k ≡ true → is_worker k ≡ true
  listener_works Root h = absurd (never h)
  listener_works (IsSocket kind) h = absurd (never h)
  listener_works Listener h = refl
  listener_works Session h = absurd (never h)

  session_works : (k : ObjKind) → is_session k ≡ true → is_worker k ≡ true
  session_works Root h = absurd (never h)
  session_works (IsSocket kind) h = absurd (never h)
  session_works Listener h = absurd (never h)
  session_works Session h = refl

  pub known_listener : AreBy [] (begun workers) items → (k : ℕ) → (known_after i (items_by k items)).listener ≡ true → Knows k × (is_listener (obj c.rows i).kind ≡ true)
  known_listener may k h =
      let is = all_kinds.listener ((own_below k).listener h) in
      (knows_of may k (listener_works (obj c.rows i).kind is.kind) is.plugged (λ none. never (sym (ap (λ (n : Known). n.listener) none) ∙ h)), is.kind)

  pub known_session : AreBy [] (begun workers) items → (k : ℕ) → (known_after i (items_by k items)).session ≡ true → Knows k × (is_session (obj c.rows i).kind ≡ true)
  known_session may k h =
      let is = all_kinds.session ((own_below k).session h) in
      (knows_of may k (session_works (obj c.rows i).kind is.kind) is.plugged (λ none. never (sym (ap (λ (n : Known). n.session) none) ∙ h)), is.kind)

  pub known_accepted : AreBy [] (begun workers) items → (k : ℕ) → (known_after i (items_by k items)).accepted ≡ true → (Knows k × (is_session (obj c.rows i).kind ≡ true)) × ((obj c.rows i).accepted ≡ true)
  known_accepted may k h =
      let so = all_kinds.accepted ((own_below k).accepted h) in
      let is = all_kinds.session so.1 in
      ((knows_of may k (session_works (obj c.rows i).kind is.kind) is.plugged (λ none. never (sym (ap (λ (n : Known). n.accepted) none) ∙ h)), is.kind), so.0)
