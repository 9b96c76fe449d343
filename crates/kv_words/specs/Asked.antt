-- The command that was read from words.
use Rattle.std.specs.Prelude.{List, map}
use Rattle.kv_words.specs.declared.sessions.Ends.{Ends as EndsRead}
use Rattle.kv_words.specs.declared.words.Command.{Command}
use Rattle.kv_words.specs.declared.words.Command.TheVariants.{Serve, Check, Dump}
use Rattle.kv_words.specs.Words.{Asked, Ends, serve, check, dump}

-- the ends that were read for a session
abbrev pub ends_of : EndsRead → Ends
ends_of ends = record { input = ends.input.now; output = ends.output.now }

-- those of each session
abbrev pub ends_in : List EndsRead → List Ends
ends_in sessions = map ends_of sessions

-- what it asks
abbrev pub asked_by : Command → Asked
asked_by (Serve folder workers limits sessions) = serve (record {
  folder = folder.now;
  workers = workers;
  limits = limits;
  sessions = ends_in sessions.items;
})
asked_by (Check folder workers) = check (record { folder = folder.now; workers = workers })
asked_by (Dump folder workers) = dump (record { folder = folder.now; workers = workers })
