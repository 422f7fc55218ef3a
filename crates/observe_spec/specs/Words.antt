-- Defines how the command line of psi_observe is parsed.
use Rattle.std.specs.Prelude.{ℕ, List, [], ◌∷◌, ◌&&◌, not, Bool, if◌then◌else◌, Option, None, Some}
use Rattle.psi_base.specs.Path.{is_path}
use Rattle.run_spec.specs.Words.{is_dashed, is_name, number_within}

-- A parsed command line of psi_observe: the name of the trace's file, the number of observers, and
-- the path of the group that they sample.
pub record Request : Type 0 where
  pub trace : List ℕ
  pub observers : ℕ
  pub path : List ℕ

-- Whether the name of a trace's file is valid: it isn't empty, and doesn't begin with `-`, except
-- for `-` itself (standard input).
abbrev pub is_trace_name : List ℕ → Bool
is_trace_name name = is_name name && not (is_dashed name)

-- `request_by trace path observers`: the request with these parts. The result is `None` if the name
-- `trace` or the path `path` is invalid, or if `observers` is `None`.
abbrev pub request_by : List ℕ → List ℕ → Option ℕ → Option Request
request_by trace path None = None
request_by trace path (Some observers) =
    if is_trace_name trace && is_path path then Some (record { trace = trace; observers = observers; path = path }) else None

-- Parses the words of the command line without the program's name: the name of a trace, a number of
-- observers from 1 to 8, and a path. The result is `None` if the words aren't exactly these three.
unfoldable pub request_of : List (List ℕ) → Option Request
request_of (trace ∷ observers ∷ path ∷ []) = request_by trace path (number_within 1 8 observers)
request_of words = None
