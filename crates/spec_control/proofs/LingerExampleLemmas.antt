use Rattle.std.specs.Prelude.{◌≡◌, ℕ, zero, suc, true, false, [], ◌∷◌, refl}
use Rattle.zq_base.specs.declared.kind.Kind.TheVariants.{Push}
use Rattle.spec_control.specs.Rows.{Rows, no_pair, obj}
use Rattle.spec_control.specs.Control.{begun}
use Rattle.spec_control.specs.ControlRun.{after_all}
use Rattle.spec_control.specs.Reply.{root_asked}
use Rattle.spec_control.specs.ControlExamples.{Stories, options_of}
use Rattle.spec_control.specs.LinkExamples.{given_up_run, run_out_run, GivenUpSessionEnds, RunOutSessionEnds}
use Rattle.spec_control.proofs.RestingLemmas.{IsDone, never, some_none, rests, waits_of_one, both_gone, ended_socket, root_ended, session_left, connected_pair}

given_up_0 : (stories : Stories) → (after_all (given_up_run stories) (begun 1)).boxes 0 ≡ []
given_up_0 stories = refl

given_up_1 : (stories : Stories) → (after_all (given_up_run stories) (begun 1)).boxes 1 ≡ []
given_up_1 stories = refl

given_up_2 : (stories : Stories) → (after_all (given_up_run stories) (begun 1)).boxes 2 ≡ []
given_up_2 stories = refl

abbrev given_up_rows : Stories → Rows
given_up_rows stories = record { objects = root_ended ∷ ended_socket Push (options_of stories [] 0) 2 ∷ session_left (options_of stories [] 0) false ∷ []; pairs = no_pair ∷ connected_pair ∷ [] }

given_up_rows_are : (stories : Stories) → (after_all (given_up_run stories) (begun 1)).rows ≡ given_up_rows stories
given_up_rows_are stories = refl

given_up_asked : (stories : Stories) → root_asked (after_all (given_up_run stories) (begun 1)) ≡ true
given_up_asked stories = refl

given_up_done : (stories : Stories) (i : ℕ) → IsDone (after_all (given_up_run stories) (begun 1)) (obj (given_up_rows stories) i)
given_up_done stories zero = record { closed = λ h. absurd (never h); ended = refl; empty = given_up_0 stories }
given_up_done stories (suc zero) = record { closed = λ h. refl; ended = refl; empty = given_up_2 stories }
given_up_done stories (suc (suc zero)) = record { closed = λ h. absurd (never h); ended = refl; empty = given_up_1 stories }
given_up_done stories (suc (suc (suc i))) = record { closed = λ h. absurd (never h); ended = refl; empty = given_up_0 stories }

pub given_up : (stories : Stories) → GivenUpSessionEnds stories
given_up stories = record {
  run_is = (
    record { may = (tt, refl); answered = record { joined = refl; kinds = tt; opened = refl; settled = refl; output = refl } },
    (
      record { may = (record { socket = refl; open_still = refl; lives = refl }, refl); answered = record { joined = refl; kinds = (tt, tt); opened = refl; settled = refl; output = refl } },
      (
        record { may = record { behind = _; oldest = refl; held = refl }; answered = record { joined = refl; kinds = (tt, tt); opened = refl; settled = refl; output = λ h. absurd (never h) } },
        (
          record { may = record { behind = _; oldest = refl; held = refl }; answered = record { joined = refl; kinds = tt; opened = refl; settled = refl; output = λ h. absurd (never h) } },
          (
            record { may = (record { socket = refl; open_still = refl; lives = refl }, refl); answered = record { joined = refl; kinds = tt; opened = refl; settled = refl; output = refl } },
            (
              record { may = record { behind = _; oldest = refl; held = refl }; answered = record { joined = refl; kinds = (tt, tt); opened = refl; settled = refl; output = λ h. absurd (never h) } },
              (
                record { may = record { behind = _; oldest = refl; held = refl }; answered = record { joined = refl; kinds = tt; opened = refl; settled = refl; output = λ h. absurd (never h) } },
                (
                  record { may = record { behind = _; oldest = refl; held = refl }; answered = record { joined = refl; kinds = tt; opened = refl; settled = refl; output = λ h. absurd (never h) } },
                  (
                    record { may = record { behind = _; oldest = refl; held = refl }; answered = record { joined = refl; kinds = tt; opened = refl; settled = refl; output = λ h. absurd (never h) } },
                    (
                      record { may = record { behind = _; oldest = refl; held = refl }; answered = record { joined = refl; kinds = tt; opened = refl; settled = record { adds_up = refl; read_out = λ e. refl }; output = λ h. absurd (never h) } },
                      (
                        record { may = record { behind = _; oldest = refl; held = refl }; answered = record { joined = refl; kinds = tt; opened = refl; settled = record { adds_up = refl; read_out = λ e. absurd (some_none e) }; output = λ h. absurd (never h) } },
                        (
                          record { may = record { behind = _; oldest = refl; held = refl }; answered = record { joined = refl; kinds = tt; opened = refl; settled = refl; output = λ h. absurd (never h) } },
                          (
                            record { may = record { behind = _; oldest = refl; held = refl }; answered = record { joined = refl; kinds = tt; opened = refl; settled = refl; output = λ h. absurd (never h) } },
                            (
                              record { may = (tt, refl); answered = record { joined = refl; kinds = tt; opened = refl; settled = refl; output = refl } },
                              tt,
                            ),
                          ),
                        ),
                      ),
                    ),
                  ),
                ),
              ),
            ),
          ),
        ),
      ),
    ),
  );
  ended_are = refl;
  settlements_are = refl;
  quiescent = rests (after_all (given_up_run stories) (begun 1)) (given_up_rows stories) (given_up_rows_are stories) (given_up_asked stories) (given_up_done stories) (waits_of_one connected_pair (both_gone connected_pair refl refl));
}

run_out_0 : (stories : Stories) → (after_all (run_out_run stories) (begun 1)).boxes 0 ≡ []
run_out_0 stories = refl

run_out_1 : (stories : Stories) → (after_all (run_out_run stories) (begun 1)).boxes 1 ≡ []
run_out_1 stories = refl

run_out_2 : (stories : Stories) → (after_all (run_out_run stories) (begun 1)).boxes 2 ≡ []
run_out_2 stories = refl

abbrev run_out_rows : Stories → Rows
run_out_rows stories = record { objects = root_ended ∷ ended_socket Push (options_of stories [] 1000) 2 ∷ session_left (options_of stories [] 1000) true ∷ []; pairs = no_pair ∷ connected_pair ∷ [] }

run_out_rows_are : (stories : Stories) → (after_all (run_out_run stories) (begun 1)).rows ≡ run_out_rows stories
run_out_rows_are stories = refl

run_out_asked : (stories : Stories) → root_asked (after_all (run_out_run stories) (begun 1)) ≡ true
run_out_asked stories = refl

run_out_done : (stories : Stories) (i : ℕ) → IsDone (after_all (run_out_run stories) (begun 1)) (obj (run_out_rows stories) i)
run_out_done stories zero = record { closed = λ h. absurd (never h); ended = refl; empty = run_out_0 stories }
run_out_done stories (suc zero) = record { closed = λ h. refl; ended = refl; empty = run_out_2 stories }
run_out_done stories (suc (suc zero)) = record { closed = λ h. absurd (never h); ended = refl; empty = run_out_1 stories }
run_out_done stories (suc (suc (suc i))) = record { closed = λ h. absurd (never h); ended = refl; empty = run_out_0 stories }

pub run_out : (stories : Stories) → RunOutSessionEnds stories
run_out stories = record {
  run_is = (
    record { may = (tt, refl); answered = record { joined = refl; kinds = tt; opened = refl; settled = refl; output = refl } },
    (
      record { may = (record { socket = refl; open_still = refl; lives = refl }, refl); answered = record { joined = refl; kinds = (tt, tt); opened = refl; settled = refl; output = refl } },
      (
        record { may = record { behind = _; oldest = refl; held = refl }; answered = record { joined = refl; kinds = (tt, tt); opened = refl; settled = refl; output = λ h. absurd (never h) } },
        (
          record { may = record { behind = _; oldest = refl; held = refl }; answered = record { joined = refl; kinds = tt; opened = refl; settled = refl; output = λ h. absurd (never h) } },
          (
            record { may = (record { socket = refl; open_still = refl; lives = refl }, refl); answered = record { joined = refl; kinds = tt; opened = refl; settled = refl; output = refl } },
            (
              record { may = record { behind = _; oldest = refl; held = refl }; answered = record { joined = refl; kinds = (tt, tt); opened = refl; settled = refl; output = λ h. absurd (never h) } },
              (
                record { may = record { behind = _; oldest = refl; held = refl }; answered = record { joined = refl; kinds = tt; opened = refl; settled = refl; output = λ h. absurd (never h) } },
                (
                  record { may = record { behind = _; oldest = refl; held = refl }; answered = record { joined = refl; kinds = tt; opened = refl; settled = refl; output = λ h. absurd (never h) } },
                  (
                    record { may = record { behind = _; oldest = refl; held = refl }; answered = record { joined = refl; kinds = tt; opened = refl; settled = refl; output = λ h. absurd (never h) } },
                    (
                      record { may = (record { session = refl; taken_in = record { plugged = refl; lives = refl }; there = refl; gives = (refl, refl) }, refl); answered = record { joined = refl; kinds = tt; opened = refl; settled = refl; output = refl } },
                      (
                        record { may = record { behind = _; oldest = refl; held = refl }; answered = record { joined = refl; kinds = tt; opened = refl; settled = record { adds_up = refl; read_out = λ e. refl }; output = λ h. absurd (never h) } },
                        (
                          record { may = record { behind = _; oldest = refl; held = refl }; answered = record { joined = refl; kinds = tt; opened = refl; settled = record { adds_up = refl; read_out = λ e. absurd (some_none e) }; output = λ h. absurd (never h) } },
                          (
                            record { may = record { behind = _; oldest = refl; held = refl }; answered = record { joined = refl; kinds = tt; opened = refl; settled = refl; output = λ h. absurd (never h) } },
                            (
                              record { may = record { behind = _; oldest = refl; held = refl }; answered = record { joined = refl; kinds = tt; opened = refl; settled = refl; output = λ h. absurd (never h) } },
                              (
                                record { may = (tt, refl); answered = record { joined = refl; kinds = tt; opened = refl; settled = refl; output = refl } },
                                tt,
                              ),
                            ),
                          ),
                        ),
                      ),
                    ),
                  ),
                ),
              ),
            ),
          ),
        ),
      ),
    ),
  );
  ended_are = refl;
  settlements_are = refl;
  quiescent = rests (after_all (run_out_run stories) (begun 1)) (run_out_rows stories) (run_out_rows_are stories) (run_out_asked stories) (run_out_done stories) (waits_of_one connected_pair (both_gone connected_pair refl refl));
}
