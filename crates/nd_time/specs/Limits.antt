-- The limits of the program, as contracts cite them. The constants are those of src/limits.rt, where
-- `limits_are_fixed` states the number of each.
use Rattle.std.specs.Prelude.{ℕ}
use Rattle.nd_time.specs.declared.limits.TheConstants.{MAX_DEPTH, MAX_DEPTH_V1, MAX_LOCATIONS, MAX_LOCATIONS_V8, MAX_LOCATIONS_V5, MAX_PORTS, MAX_NAME, MAX_NAME_V8, MAX_PROCESSORS, MAX_PROCESSORS_V8, MAX_PROCESSORS_V1, MAX_COUNT, MAX_VALUES, MAX_QUEUE, MAX_KEPT, MAX_BREAKS, MAX_LOG, MAX_CLIENTS, MAX_WORKERS, PIECE_LENGTH, MAX_REACHED, MAX_LINE, MAX_GRAPH_LINE, MAX_INPUT, MAX_TOLD, MAX_LITERALS}

-- the greatest depth of nested loops; `max_depth_v1` is that of a graph of version 1
abbrev pub max_depth : ℕ
max_depth = MAX_DEPTH

abbrev pub max_depth_v1 : ℕ
max_depth_v1 = MAX_DEPTH_V1

-- the most locations of a graph; `max_locations_v8` is that of a script of the versions 6 to 8, and `max_locations_v5` of one before 6
abbrev pub max_locations : ℕ
max_locations = MAX_LOCATIONS

abbrev pub max_locations_v8 : ℕ
max_locations_v8 = MAX_LOCATIONS_V8

abbrev pub max_locations_v5 : ℕ
max_locations_v5 = MAX_LOCATIONS_V5

-- the most output ports of an opaque vertex
abbrev pub max_ports : ℕ
max_ports = MAX_PORTS

-- the greatest length of a name in bytes; the next two are the least and the greatest byte in it, ' ' and '~'
abbrev pub max_name : ℕ
max_name = MAX_NAME

abbrev pub least_of_name : ℕ
least_of_name = 32

abbrev pub greatest_of_name : ℕ
greatest_of_name = 126

-- the greatest length of a name and the least byte in it, '!', in a script of a version before 9
abbrev pub max_name_v8 : ℕ
max_name_v8 = MAX_NAME_V8

abbrev pub least_of_name_v8 : ℕ
least_of_name_v8 = 33

-- the most processors of a cluster; `max_processors_v8` is that of a script of the versions 2 to 8, and `max_processors_v1` of version 1
abbrev pub max_processors : ℕ
max_processors = MAX_PROCESSORS

abbrev pub max_processors_v8 : ℕ
max_processors_v8 = MAX_PROCESSORS_V8

abbrev pub max_processors_v1 : ℕ
max_processors_v1 = MAX_PROCESSORS_V1

-- the greatest count of a record or of a sink, and the greatest absolute value of an entry of a change
-- or of a view
abbrev pub max_count : ℕ
max_count = MAX_COUNT

-- the greatest epoch and loop counter
abbrev pub max_counter : ℕ
max_counter = 4294967295

-- the most values in one feed
abbrev pub max_values : ℕ
max_values = MAX_VALUES

-- the most changes in one queue
abbrev pub max_queue : ℕ
max_queue = MAX_QUEUE

-- the most kept steps
abbrev pub max_kept : ℕ
max_kept = MAX_KEPT

-- the most breakpoints that are set at once
abbrev pub max_breaks : ℕ
max_breaks = MAX_BREAKS

-- the most commands that a session logs
abbrev pub max_log : ℕ
max_log = MAX_LOG

-- the most clients over a session's life
abbrev pub max_clients : ℕ
max_clients = MAX_CLIENTS

-- the most workers of a search; a search that asks for more starts this many
abbrev pub max_workers : ℕ
max_workers = MAX_WORKERS

-- the number of positions in one piece of a search
abbrev pub piece_length : ℕ
piece_length = PIECE_LENGTH

-- the most states that are looked at to reach a condition
abbrev pub max_reached : ℕ
max_reached = MAX_REACHED

-- the greatest length of a line in bytes, without its newline
abbrev pub max_line : ℕ
max_line = MAX_LINE

-- the greatest length of the graph's line in bytes, without its newline, in a script of version 9
abbrev pub max_graph_line : ℕ
max_graph_line = MAX_GRAPH_LINE

-- the greatest length of a script in bytes
abbrev pub max_input : ℕ
max_input = MAX_INPUT

-- the most elements of a list in one reply: changes of a view, candidates, or turns of a condition
abbrev pub max_told : ℕ
max_told = MAX_TOLD

-- the most literals in one condition
abbrev pub max_literals : ℕ
max_literals = MAX_LITERALS
