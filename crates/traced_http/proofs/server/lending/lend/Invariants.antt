use Rattle.traced_http.proofs.server.lending.lend.Given as goal

-- the origin is the span that is lent
abbrev pub ghosts-lend_from : goal.ghosts-lend_from
ghosts-lend_from g a = record { origin = a.span }
