use Rattle.std.specs.Prelude.{◌≡◌, ℕ, zero, suc, true, [], ◌∷◌, refl}
use Rattle.std.proofs.Common.{arith}
use Rattle.zq_base.specs.declared.kind.Kind.TheVariants.{Pull, Router}
use Rattle.spec_control.specs.declared.stage.Use.TheVariants.{Unused, Used}
use Rattle.spec_control.specs.Rows.{Rows, no_pair, obj}
use Rattle.spec_control.specs.Control.{begun}
use Rattle.spec_control.specs.ControlRun.{after_all}
use Rattle.spec_control.specs.Reply.{root_asked}
use Rattle.spec_control.specs.ControlExamples.{Stories, options_of}
use Rattle.spec_control.specs.LinkExamples.{failed_run, unbound_run, refused_run, FailedSessionEnds, UnboundListenerEnds, RefusedPeerEnds, LinkedRuns}
use Rattle.spec_control.proofs.RestingLemmas.{IsDone, never, some_none, rests, waits_of_none, waits_of_one, waits_of_two, both_gone, both_unmade, ended_socket, root_ended, listener_left, accepted_left, accepted_pair, undone_pair}
use Rattle.spec_control.proofs.LingerExampleLemmas.{given_up, run_out}

unused_used : Unused ≡ Used → ⊥
unused_used e = Prim.grind arith

failed_0 : (stories : Stories) → (after_all (failed_run stories) (begun 1)).boxes 0 ≡ []
failed_0 stories = refl

failed_1 : (stories : Stories) → (after_all (failed_run stories) (begun 1)).boxes 1 ≡ []
failed_1 stories = refl

failed_2 : (stories : Stories) → (after_all (failed_run stories) (begun 1)).boxes 2 ≡ []
failed_2 stories = refl

abbrev failed_rows : Stories → Rows
failed_rows stories = record { objects = root_ended ∷ ended_socket Pull (options_of stories [] 0) 2 ∷ listener_left (options_of stories [] 0) ∷ accepted_left (options_of stories [] 0) 1 Used ∷ []; pairs = no_pair ∷ undone_pair 3 ∷ [] }

failed_rows_are : (stories : Stories) → (after_all (failed_run stories) (begun 1)).rows ≡ failed_rows stories
failed_rows_are stories = refl

failed_asked : (stories : Stories) → root_asked (after_all (failed_run stories) (begun 1)) ≡ true
failed_asked stories = refl

failed_done : (stories : Stories) (i : ℕ) → IsDone (after_all (failed_run stories) (begun 1)) (obj (failed_rows stories) i)
failed_done stories zero = record { closed = λ h. absurd (never h); ended = refl; empty = failed_0 stories }
failed_done stories (suc zero) = record { closed = λ h. refl; ended = refl; empty = failed_2 stories }
failed_done stories (suc (suc zero)) = record { closed = λ h. absurd (never h); ended = refl; empty = failed_1 stories }
failed_done stories (suc (suc (suc zero))) = record { closed = λ h. absurd (never h); ended = refl; empty = failed_1 stories }
failed_done stories (suc (suc (suc (suc i)))) = record { closed = λ h. absurd (never h); ended = refl; empty = failed_0 stories }

pub failed : (stories : Stories) → FailedSessionEnds stories
failed stories = record {
  run_is = (
    record { may = (tt, refl); answered = record { joined = refl; kinds = tt; opened = refl; settled = refl; output = refl } },
    (
      record { may = (record { socket = refl; open_still = refl; lives = refl }, refl); answered = record { joined = refl; kinds = tt; opened = refl; settled = refl; output = refl } },
      (
        record { may = record { behind = _; oldest = refl; held = refl }; answered = record { joined = refl; kinds = tt; opened = refl; settled = refl; output = λ h. absurd (never h) } },
        (
          record { may = record { behind = _; oldest = refl; held = refl }; answered = record { joined = refl; kinds = tt; opened = refl; settled = refl; output = λ h. absurd (never h) } },
          (
            record { may = ((refl, record { plugged = refl; lives = refl }), refl); answered = record { joined = refl; kinds = tt; opened = refl; settled = refl; output = refl } },
            (
              record { may = (record { no_socket = refl; taken_in = record { plugged = refl; lives = refl }; first_time = refl }, refl); answered = record { joined = refl; kinds = tt; opened = refl; settled = refl; output = refl } },
              (
                record { may = record { behind = _; oldest = refl; held = refl }; answered = record { joined = refl; kinds = tt; opened = refl; settled = refl; output = λ h. absurd (never h) } },
                (
                  record { may = record { behind = _; oldest = refl; held = refl }; answered = record { joined = refl; kinds = tt; opened = refl; settled = refl; output = λ h. absurd (never h) } },
                  (
                    record { may = record { behind = _; oldest = refl; held = refl }; answered = record { joined = refl; kinds = tt; opened = refl; settled = refl; output = λ h. absurd (never h) } },
                    (
                      record { may = record { behind = _; oldest = refl; held = refl }; answered = record { joined = refl; kinds = tt; opened = refl; settled = refl; output = λ h. absurd (never h) } },
                      (
                        record { may = (record { socket = refl; open_still = refl; lives = refl }, refl); answered = record { joined = refl; kinds = tt; opened = refl; settled = refl; output = refl } },
                        (
                          record { may = (tt, refl); answered = record { joined = refl; kinds = tt; opened = refl; settled = refl; output = refl } },
                          (
                            record { may = record { behind = _; oldest = refl; held = refl }; answered = record { joined = refl; kinds = tt; opened = refl; settled = refl; output = λ h. absurd (never h) } },
                            (
                              record { may = record { behind = _; oldest = refl; held = refl }; answered = record { joined = refl; kinds = tt; opened = refl; settled = refl; output = λ h. absurd (never h) } },
                              (
                                record { may = record { behind = _; oldest = refl; held = refl }; answered = record { joined = refl; kinds = tt; opened = refl; settled = refl; output = λ h. absurd (never h) } },
                                (
                                  record { may = record { behind = _; oldest = refl; held = refl }; answered = record { joined = refl; kinds = tt; opened = refl; settled = refl; output = λ h. absurd (never h) } },
                                  (
                                    record { may = record { behind = _; oldest = refl; held = refl }; answered = record { joined = refl; kinds = tt; opened = refl; settled = refl; output = λ h. absurd (never h) } },
                                    tt,
                                  ),
                                ),
                              ),
                            ),
                          ),
                        ),
                      ),
                    ),
                  ),
                ),
              ),
            ),
          ),
        ),
      ),
    ),
  );
  ended_are = refl;
  settlements_are = refl;
  quiescent = rests (after_all (failed_run stories) (begun 1)) (failed_rows stories) (failed_rows_are stories) (failed_asked stories) (failed_done stories) (waits_of_one (undone_pair 3) (both_unmade (undone_pair 3) refl refl));
}

unbound_0 : (stories : Stories) → (after_all (unbound_run stories) (begun 1)).boxes 0 ≡ []
unbound_0 stories = refl

unbound_1 : (stories : Stories) → (after_all (unbound_run stories) (begun 1)).boxes 1 ≡ []
unbound_1 stories = refl

unbound_2 : (stories : Stories) → (after_all (unbound_run stories) (begun 1)).boxes 2 ≡ []
unbound_2 stories = refl

abbrev unbound_rows : Stories → Rows
unbound_rows stories = record { objects = root_ended ∷ ended_socket Pull (options_of stories [] 0) 2 ∷ listener_left (options_of stories [] 0) ∷ listener_left (options_of stories [] 0) ∷ []; pairs = no_pair ∷ [] }

unbound_rows_are : (stories : Stories) → (after_all (unbound_run stories) (begun 1)).rows ≡ unbound_rows stories
unbound_rows_are stories = refl

unbound_asked : (stories : Stories) → root_asked (after_all (unbound_run stories) (begun 1)) ≡ true
unbound_asked stories = refl

unbound_done : (stories : Stories) (i : ℕ) → IsDone (after_all (unbound_run stories) (begun 1)) (obj (unbound_rows stories) i)
unbound_done stories zero = record { closed = λ h. absurd (never h); ended = refl; empty = unbound_0 stories }
unbound_done stories (suc zero) = record { closed = λ h. refl; ended = refl; empty = unbound_2 stories }
unbound_done stories (suc (suc zero)) = record { closed = λ h. absurd (never h); ended = refl; empty = unbound_1 stories }
unbound_done stories (suc (suc (suc zero))) = record { closed = λ h. absurd (never h); ended = refl; empty = unbound_1 stories }
unbound_done stories (suc (suc (suc (suc i)))) = record { closed = λ h. absurd (never h); ended = refl; empty = unbound_0 stories }

pub unbound : (stories : Stories) → UnboundListenerEnds stories
unbound stories = record {
  run_is = (
    record { may = (tt, refl); answered = record { joined = refl; kinds = tt; opened = refl; settled = refl; output = refl } },
    (
      record { may = (record { socket = refl; open_still = refl; lives = refl }, refl); answered = record { joined = refl; kinds = tt; opened = refl; settled = refl; output = refl } },
      (
        record { may = (record { socket = refl; open_still = refl; lives = refl }, refl); answered = record { joined = refl; kinds = tt; opened = refl; settled = refl; output = refl } },
        (
          record { may = (record { socket = refl; open_still = refl; lives = refl }, refl); answered = record { joined = refl; kinds = tt; opened = refl; settled = refl; output = refl } },
          (
            record { may = (record { socket = refl; open_still = refl; lives = refl }, refl); answered = record { joined = refl; kinds = tt; opened = refl; settled = refl; output = refl } },
            (
              record { may = (record { socket = refl; open_still = refl; lives = refl }, refl); answered = record { joined = refl; kinds = tt; opened = refl; settled = refl; output = refl } },
              (
                record { may = record { behind = _; oldest = refl; held = refl }; answered = record { joined = refl; kinds = tt; opened = refl; settled = refl; output = λ h. absurd (never h) } },
                (
                  record { may = record { behind = _; oldest = refl; held = refl }; answered = record { joined = refl; kinds = tt; opened = refl; settled = refl; output = λ h. absurd (never h) } },
                  (
                    record { may = record { behind = _; oldest = refl; held = refl }; answered = record { joined = refl; kinds = tt; opened = refl; settled = refl; output = λ h. absurd (never h) } },
                    (
                      record { may = record { behind = _; oldest = refl; held = refl }; answered = record { joined = refl; kinds = tt; opened = refl; settled = refl; output = λ h. absurd (never h) } },
                      (
                        record { may = record { behind = _; oldest = refl; held = refl }; answered = record { joined = refl; kinds = tt; opened = refl; settled = refl; output = λ h. absurd (never h) } },
                        (
                          record { may = record { behind = _; oldest = refl; held = refl }; answered = record { joined = refl; kinds = tt; opened = refl; settled = refl; output = λ h. absurd (never h) } },
                          (
                            record { may = (record { socket = refl; open_still = refl; lives = refl }, refl); answered = record { joined = refl; kinds = tt; opened = refl; settled = refl; output = refl } },
                            (
                              record { may = record { behind = _; oldest = refl; held = refl }; answered = record { joined = refl; kinds = tt; opened = refl; settled = refl; output = λ h. absurd (never h) } },
                              (
                                record { may = record { behind = _; oldest = refl; held = refl }; answered = record { joined = refl; kinds = tt; opened = refl; settled = refl; output = λ h. absurd (never h) } },
                                (
                                  record { may = record { behind = _; oldest = refl; held = refl }; answered = record { joined = refl; kinds = tt; opened = refl; settled = refl; output = λ h. absurd (never h) } },
                                  (
                                    record { may = record { behind = _; oldest = refl; held = refl }; answered = record { joined = refl; kinds = tt; opened = refl; settled = refl; output = λ h. absurd (never h) } },
                                    (
                                      record { may = record { behind = _; oldest = refl; held = refl }; answered = record { joined = refl; kinds = tt; opened = refl; settled = refl; output = λ h. absurd (never h) } },
                                      (
                                        record { may = (tt, refl); answered = record { joined = refl; kinds = tt; opened = refl; settled = refl; output = refl } },
                                        tt,
                                      ),
                                    ),
                                  ),
                                ),
                              ),
                            ),
                          ),
                        ),
                      ),
                    ),
                  ),
                ),
              ),
            ),
          ),
        ),
      ),
    ),
  );
  ended_are = refl;
  settlements_are = refl;
  quiescent = rests (after_all (unbound_run stories) (begun 1)) (unbound_rows stories) (unbound_rows_are stories) (unbound_asked stories) (unbound_done stories) waits_of_none;
}

refused_0 : (stories : Stories) → (after_all (refused_run stories) (begun 1)).boxes 0 ≡ []
refused_0 stories = refl

refused_1 : (stories : Stories) → (after_all (refused_run stories) (begun 1)).boxes 1 ≡ []
refused_1 stories = refl

refused_2 : (stories : Stories) → (after_all (refused_run stories) (begun 1)).boxes 2 ≡ []
refused_2 stories = refl

abbrev refused_rows : Stories → Rows
refused_rows stories = record { objects = root_ended ∷ ended_socket Router (options_of stories [] 0) 2 ∷ listener_left (options_of stories [] 0) ∷ accepted_left (options_of stories [] 0) 1 Unused ∷ accepted_left (options_of stories [] 0) 2 Used ∷ []; pairs = no_pair ∷ accepted_pair 3 ∷ accepted_pair 4 ∷ [] }

refused_rows_are : (stories : Stories) → (after_all (refused_run stories) (begun 1)).rows ≡ refused_rows stories
refused_rows_are stories = refl

refused_asked : (stories : Stories) → root_asked (after_all (refused_run stories) (begun 1)) ≡ true
refused_asked stories = refl

refused_done : (stories : Stories) (i : ℕ) → IsDone (after_all (refused_run stories) (begun 1)) (obj (refused_rows stories) i)
refused_done stories zero = record { closed = λ h. absurd (never h); ended = refl; empty = refused_0 stories }
refused_done stories (suc zero) = record { closed = λ h. refl; ended = refl; empty = refused_2 stories }
refused_done stories (suc (suc zero)) = record { closed = λ h. absurd (never h); ended = refl; empty = refused_1 stories }
refused_done stories (suc (suc (suc zero))) = record { closed = λ h. absurd (never h); ended = refl; empty = refused_1 stories }
refused_done stories (suc (suc (suc (suc zero)))) = record { closed = λ h. absurd (never h); ended = refl; empty = refused_1 stories }
refused_done stories (suc (suc (suc (suc (suc i))))) = record { closed = λ h. absurd (never h); ended = refl; empty = refused_0 stories }

pub refused : (stories : Stories) → RefusedPeerEnds stories
refused stories = record {
  run_is = (
    record { may = (tt, refl); answered = record { joined = refl; kinds = tt; opened = refl; settled = refl; output = refl } },
    (
      record { may = (record { socket = refl; open_still = refl; lives = refl }, refl); answered = record { joined = refl; kinds = tt; opened = refl; settled = refl; output = refl } },
      (
        record { may = record { behind = _; oldest = refl; held = refl }; answered = record { joined = refl; kinds = tt; opened = refl; settled = refl; output = λ h. absurd (never h) } },
        (
          record { may = record { behind = _; oldest = refl; held = refl }; answered = record { joined = refl; kinds = tt; opened = refl; settled = refl; output = λ h. absurd (never h) } },
          (
            record { may = ((refl, record { plugged = refl; lives = refl }), refl); answered = record { joined = refl; kinds = tt; opened = refl; settled = refl; output = refl } },
            (
              record { may = record { behind = _; oldest = refl; held = refl }; answered = record { joined = refl; kinds = tt; opened = refl; settled = refl; output = λ h. absurd (never h) } },
              (
                record { may = (record { session = refl; accepted = refl; taken_in = record { plugged = refl; lives = refl }; unasked = refl; unmade = refl }, refl); answered = record { joined = refl; kinds = (tt, tt); opened = refl; settled = refl; output = refl } },
                (
                  record { may = record { behind = _; oldest = refl; held = refl }; answered = record { joined = refl; kinds = (tt, tt); opened = refl; settled = refl; output = λ h. absurd (never h) } },
                  (
                    record { may = ((refl, record { plugged = refl; lives = refl }), refl); answered = record { joined = refl; kinds = tt; opened = refl; settled = refl; output = refl } },
                    (
                      record { may = record { behind = _; oldest = refl; held = refl }; answered = record { joined = refl; kinds = tt; opened = refl; settled = refl; output = λ h. absurd (never h) } },
                      (
                        record { may = (record { session = refl; accepted = refl; taken_in = record { plugged = refl; lives = refl }; unasked = refl; unmade = refl }, refl); answered = record { joined = refl; kinds = (tt, tt); opened = refl; settled = refl; output = refl } },
                        (
                          record { may = record { behind = _; oldest = refl; held = refl }; answered = record { joined = refl; kinds = ((refl, unused_used), tt); opened = refl; settled = refl; output = λ h. absurd (never h) } },
                          (
                            record { may = record { behind = _; oldest = refl; held = refl }; answered = record { joined = refl; kinds = tt; opened = refl; settled = refl; output = λ h. absurd (never h) } },
                            (
                              record { may = record { looked_at = refl; held = refl }; answered = record { joined = refl; kinds = tt; opened = refl; settled = refl; output = refl } },
                              (
                                record { may = record { behind = _; oldest = refl; held = refl }; answered = record { joined = refl; kinds = tt; opened = refl; settled = record { adds_up = refl; read_out = λ e. absurd (some_none e) }; output = λ h. absurd (never h) } },
                                (
                                  record { may = record { behind = _; oldest = refl; held = refl }; answered = record { joined = refl; kinds = tt; opened = refl; settled = record { adds_up = refl; read_out = λ e. refl }; output = λ h. absurd (never h) } },
                                  (
                                    record { may = (record { no_socket = refl; taken_in = record { plugged = refl; lives = refl }; first_time = refl }, refl); answered = record { joined = refl; kinds = tt; opened = refl; settled = refl; output = refl } },
                                    (
                                      record { may = record { behind = _; oldest = refl; held = refl }; answered = record { joined = refl; kinds = tt; opened = refl; settled = refl; output = λ h. absurd (never h) } },
                                      (
                                        record { may = record { behind = _; oldest = refl; held = refl }; answered = record { joined = refl; kinds = tt; opened = refl; settled = refl; output = λ h. absurd (never h) } },
                                        (
                                          record { may = record { behind = _; oldest = refl; held = refl }; answered = record { joined = refl; kinds = tt; opened = refl; settled = refl; output = λ h. absurd (never h) } },
                                          (
                                            record { may = (record { socket = refl; open_still = refl; lives = refl }, refl); answered = record { joined = refl; kinds = tt; opened = refl; settled = refl; output = refl } },
                                            (
                                              record { may = record { behind = _; oldest = refl; held = refl }; answered = record { joined = refl; kinds = (tt, tt); opened = refl; settled = refl; output = λ h. absurd (never h) } },
                                              (
                                                record { may = record { behind = _; oldest = refl; held = refl }; answered = record { joined = refl; kinds = tt; opened = refl; settled = refl; output = λ h. absurd (never h) } },
                                                (
                                                  record { may = record { behind = _; oldest = refl; held = refl }; answered = record { joined = refl; kinds = tt; opened = refl; settled = refl; output = λ h. absurd (never h) } },
                                                  (
                                                    record { may = record { looked_at = refl; held = refl }; answered = record { joined = refl; kinds = tt; opened = refl; settled = refl; output = refl } },
                                                    (
                                                      record { may = record { behind = _; oldest = refl; held = refl }; answered = record { joined = refl; kinds = tt; opened = refl; settled = refl; output = λ h. absurd (never h) } },
                                                      (
                                                        record { may = record { behind = _; oldest = refl; held = refl }; answered = record { joined = refl; kinds = tt; opened = refl; settled = refl; output = λ h. absurd (never h) } },
                                                        (
                                                          record { may = record { behind = _; oldest = refl; held = refl }; answered = record { joined = refl; kinds = tt; opened = refl; settled = record { adds_up = refl; read_out = λ e. absurd (some_none e) }; output = λ h. absurd (never h) } },
                                                          (
                                                            record { may = record { behind = _; oldest = refl; held = refl }; answered = record { joined = refl; kinds = tt; opened = refl; settled = refl; output = λ h. absurd (never h) } },
                                                            (
                                                              record { may = record { behind = _; oldest = refl; held = refl }; answered = record { joined = refl; kinds = tt; opened = refl; settled = record { adds_up = refl; read_out = λ e. refl }; output = λ h. absurd (never h) } },
                                                              (
                                                                record { may = record { behind = _; oldest = refl; held = refl }; answered = record { joined = refl; kinds = tt; opened = refl; settled = refl; output = λ h. absurd (never h) } },
                                                                (
                                                                  record { may = record { behind = _; oldest = refl; held = refl }; answered = record { joined = refl; kinds = tt; opened = refl; settled = refl; output = λ h. absurd (never h) } },
                                                                  (
                                                                    record { may = (tt, refl); answered = record { joined = refl; kinds = tt; opened = refl; settled = refl; output = refl } },
                                                                    tt,
                                                                  ),
                                                                ),
                                                              ),
                                                            ),
                                                          ),
                                                        ),
                                                      ),
                                                    ),
                                                  ),
                                                ),
                                              ),
                                            ),
                                          ),
                                        ),
                                      ),
                                    ),
                                  ),
                                ),
                              ),
                            ),
                          ),
                        ),
                      ),
                    ),
                  ),
                ),
              ),
            ),
          ),
        ),
      ),
    ),
  );
  ended_are = refl;
  settlements_are = refl;
  quiescent = rests (after_all (refused_run stories) (begun 1)) (refused_rows stories) (refused_rows_are stories) (refused_asked stories) (refused_done stories) (waits_of_two (accepted_pair 3) (accepted_pair 4) (both_gone (accepted_pair 3) refl refl) (both_gone (accepted_pair 4) refl refl));
}

pub linked_runs : LinkedRuns
linked_runs = record { failed = failed; unbound = unbound; given_up = given_up; run_out = run_out; refused = refused }
